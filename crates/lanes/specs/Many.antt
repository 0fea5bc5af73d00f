-- Many blocks (document 01, "After these"): what a call answers, and what its output holds afterwards.
-- Assumes nothing.
use Rattle.std.specs.Prelude.{ℕ, ◌*◌, Bool, true, false, not, List, [], ◌∷◌, ltb, eqb, length, get_or, take, drop}
use Rattle.katan.specs.Bit.{pick, tabulate, number_in}
use Rattle.katan.specs.Sizes.{lane_count, key_bytes}
use Rattle.katan.specs.Machine.{encryption, decryption}
use Rattle.katan.specs.Checks.{Outcome, value, Check, checked, variant_check, block_check}
use Rattle.katan.specs.Lent.{lent_after}
use Rattle.lanes.specs.declared.Direction.{Direction}
use Rattle.lanes.specs.declared.Direction.TheVariants.{Encrypt, Decrypt}

-- block i takes key bytes 10 i to 10 i + 9
abbrev pub block_key : List ℕ → ℕ → ℕ
block_key keys i = number_in (take key_bytes (drop (key_bytes * i) keys))

-- one block, either way
abbrev pub one_block : Direction → (v key x : ℕ) → ℕ
one_block Encrypt v key x = encryption v key x
one_block Decrypt v key x = decryption v key x

-- result i is block i's
unfoldable pub results : Direction → ℕ → (keys blocks : List ℕ) → List ℕ
results d v keys blocks = tabulate (λ i. one_block d v (block_key keys i) (get_or blocks i 0)) 0 (length blocks)

-- the test passes at some element
abbrev pub any : {A : Type 0} → (A → Bool) → List A → Bool
any f [] = false
any f (x ∷ xs) = pick (f x) true (any f xs)

-- 2: 0 or over 64 blocks, keys not ten times that, or another output length
abbrev pub lengths_check : (keys blocks out : List ℕ) → Check
lengths_check keys blocks out =
    record {
      number = 2;
      fault = any (λ b. b)
          (eqb (length blocks) 0
          ∷ ltb lane_count (length blocks)
          ∷ not (eqb (length keys) (key_bytes * length blocks))
          ∷ not (eqb (length out) (length blocks))
          ∷ []);
    }

-- 7: a block is 2^n or more
abbrev pub blocks_check : ℕ → List ℕ → Check
blocks_check v blocks = record { number = 7; fault = any (λ x. (block_check v x).fault) blocks }

abbrev pub many_checks : ℕ → (keys blocks out : List ℕ) → List Check
many_checks v keys blocks out = variant_check v ∷ lengths_check keys blocks out ∷ blocks_check v blocks ∷ []

abbrev pub many_answer : ℕ → (keys blocks out : List ℕ) → Outcome (Unit {0})
many_answer v keys blocks out = checked (many_checks v keys blocks out) (value tt)

-- a refusal leaves the output as it was
abbrev pub many_of : Direction → ℕ → (keys blocks out : List ℕ) → List ℕ
many_of d v keys blocks out = lent_after (λ ys. ys) (checked (many_checks v keys blocks out) (value (results d v keys blocks))) out
