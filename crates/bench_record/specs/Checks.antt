-- Turned away (document 01): the checks 3 to 8 of a record.
-- Assumes nothing.
use Rattle.std.specs.Prelude.{ℕ, List, [], ◌∷◌, Bool, true, false, not, ◌||◌, leb, ltb, eqb}
use Rattle.katan.specs.Counter.{rounds}
use Rattle.katan.specs.Checks.{Check, block_check}
use Rattle.katan.specs.Key.{key_number}
use Rattle.katan.specs.Sizes.{lane_count}
use Rattle.bench_record.specs.declared.Record.{Record}
use Rattle.bench_record.specs.Fields.{Kind, load, forward, back, clear, other, kind}

abbrev pub nonzero : ℕ → Bool
nonzero x = not (eqb x 0)

-- 3: the kind is not 1 to 4
unfoldable pub unknown : Kind → Bool
unknown load = false
unknown forward = false
unknown back = false
unknown clear = false
unknown other = true

-- 4: an unused field or a zero byte (3, 34 to 39) is not zero.
-- Load uses lane, position, key, block; moves use mask and count; clear uses mask.
abbrev pub load_fields : Record → Bool
load_fields r = nonzero r.lane || nonzero (key_number r.key) || nonzero r.block

unfoldable pub unused : Kind → Record → Bool
unused load r = nonzero r.mask
unused forward r = load_fields r
unused back r = load_fields r
unused clear r = nonzero r.count || load_fields r
unused other r = false

abbrev pub zero_bytes : Record → Bool
zero_bytes r = nonzero r.gap || nonzero r.rest

-- 5: the lane is over 63
abbrev pub lane_check : ℕ → Check
lane_check i = record { number = 5; fault = leb lane_count i }

-- 6: a load position is over 254, or a move count is 0 or over 254
unfoldable pub wrong_count : Kind → ℕ → Bool
wrong_count load c = ltb rounds c
wrong_count forward c = eqb c 0 || ltb rounds c
wrong_count back c = eqb c 0 || ltb rounds c
wrong_count clear c = false
wrong_count other c = false

-- 8: the mask of a move or clear is 0
unfoldable pub none_named : Kind → ℕ → Bool
none_named load m = false
none_named forward m = eqb m 0
none_named back m = eqb m 0
none_named clear m = eqb m 0
none_named other m = false

-- 3 to 8, by rising number, of a record of kind k on a bench of variant v
abbrev pub checks_of : Kind → ℕ → Record → List Check
checks_of k v r =
    record { number = 3; fault = unknown k }
    ∷ record { number = 4; fault = zero_bytes r || unused k r }
    ∷ lane_check r.lane
    ∷ record { number = 6; fault = wrong_count k r.count }
    ∷ block_check v r.block
    ∷ record { number = 8; fault = none_named k r.mask }
    ∷ []

abbrev pub field_checks : ℕ → Record → List Check
field_checks v r = checks_of (kind r) v r
