-- What a run of a sheet and a join of two answer (document 02, (ix)).
-- Assumes nothing.
use Rattle.std.specs.Prelude.{ℕ, ◌||◌, List, [], ◌∷◌, take}
use Rattle.katan.specs.Bit.{number_in}
use Rattle.katan.specs.Key.{key_number, key_of}
use Rattle.katan.specs.Sizes.{key_bytes}
use Rattle.katan.specs.Checks.{Outcome, value, Check, checked, variant_check, key_check, position_check, block_check}
use Rattle.katan_sheet.specs.Sheet.{smudged_at, joined, contradicts}
use Rattle.katan_sheet.specs.declared.Known.{Known}
use Rattle.katan.specs.declared.Key.{Key}
use Rattle.katan_sheet.specs.declared.Sheet.{Sheet}

-- the two parts of a key in bytes
abbrev pub key_given : (ones zeros : List ℕ) → Known ℕ
key_given ones zeros = record { ones = number_in ones; zeros = number_in zeros }

-- the key that their first ten bytes say
abbrev pub key_in : (ones zeros : List ℕ) → Known Key
key_in ones zeros = record { ones = key_of (number_in (take key_bytes ones)); zeros = key_of (number_in (take key_bytes zeros)) }

-- 2: either part of a key is not 10 bytes
abbrev pub key_parts_check : (ones zeros : List ℕ) → Check
key_parts_check ones zeros = record { number = 2; fault = (key_check ones).fault || (key_check zeros).fault }

-- 7: either number of a block is 2^n or more
abbrev pub block_parts_check : ℕ → Known ℕ → Check
block_parts_check v block = record { number = 7; fault = (block_check v block.ones).fault || (block_check v block.zeros).fault }

-- 16: a bit of block or key is known both as 0 and as 1
abbrev pub contradiction_check : (key block : Known ℕ) → Check
contradiction_check key block = record { number = 16; fault = contradicts block || contradicts key }

-- 1, 2, 6, 7, 16
abbrev pub smudged_checks : (v : ℕ) → Known ℕ → (key_ones key_zeros : List ℕ) → (p : ℕ) → List Check
smudged_checks v block key_ones key_zeros p =
    variant_check v ∷ key_parts_check key_ones key_zeros ∷ position_check p ∷ block_parts_check v block ∷ contradiction_check (key_given key_ones key_zeros) block ∷ []

abbrev pub smudged_answer : (v : ℕ) → Known ℕ → (key_ones key_zeros : List ℕ) → (p : ℕ) → Outcome (Known ℕ)
smudged_answer v block key_ones key_zeros p = checked (smudged_checks v block key_ones key_zeros p) (value (smudged_at v (key_given key_ones key_zeros) block p))

-- ---- two sheets of one block

-- 1, 2, 7, 16: on one sheet or between the two
abbrev pub join_checks : (v : ℕ) → Known ℕ → (key_ones key_zeros : List ℕ) → (other : Known ℕ) → (other_key_ones other_key_zeros : List ℕ) → List Check
join_checks v block key_ones key_zeros other other_key_ones other_key_zeros =
    variant_check v ∷ key_parts_check key_ones key_zeros ∷ key_parts_check other_key_ones other_key_zeros ∷ block_parts_check v block ∷ block_parts_check v other
    ∷ contradiction_check (joined (key_given key_ones key_zeros) (key_given other_key_ones other_key_zeros)) (joined block other) ∷ []

-- what either knows of the block, and of the key
abbrev pub join_answer : (v : ℕ) → Known ℕ → (key_ones key_zeros : List ℕ) → (other : Known ℕ) → (other_key_ones other_key_zeros : List ℕ) → Outcome (Known ℕ × Known ℕ)
join_answer v block key_ones key_zeros other other_key_ones other_key_zeros =
    checked (join_checks v block key_ones key_zeros other other_key_ones other_key_zeros)
    (value (joined block other, joined (key_given key_ones key_zeros) (key_given other_key_ones other_key_zeros)))

-- a key's two parts by their numbers
abbrev pub key_known : Known Key → Known ℕ
key_known k = record { ones = key_number k.ones; zeros = key_number k.zeros }

-- a sheet's block and key
abbrev pub sheet_known : Sheet Key → Known ℕ × Known ℕ
sheet_known s = (s.block, key_known s.key)
