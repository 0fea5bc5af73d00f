-- The starred bench cases hold: one test that antt computes over the whole table.
-- Assumes nothing.
use mathlib.Core.Path.{◌≡◌, refl, ap, ap₂, ◌∙◌}
use mathlib.Core.Bool.{Bool, true}
use mathlib.Core.List.{List, [], ◌∷◌}
use Prim.Native.Nat.{ℕ, zero, suc, ◌+◌, ◌-◌, ◌*◌, ◌^◌, zero-le}
use native.Mathlib.Nat.{zero-mod, zero-div, zero-mul}
use native.Mathlib.Omega.{arith}
use lib.Dec.{T, eqb, eqb→eq, leb, leb→le}
use Rattle.katan.specs.Bit.{xor}
use Rattle.katan.specs.Counter.{counter, ir_of}
use Rattle.katan.specs.Key.{k, key_length, key_bit_number}
use Rattle.katan.specs.Variant.{row_of}
use Rattle.katan.specs.Clock.{clock, clocks, run, round, block, registers, input_of}
use Rattle.katan.specs.Machine.{forward, registers_at}
use Rattle.katan.specs.Cases.{Case, counts, irregular, picks, follows, rests, reaches, Says, Hold, table}
use Rattle.katan.specs.declared.Row.{Row}
use Rattle.katan.specs.declared.Registers.{Registers}
use Rattle.katan.specs.declared.RoundInput.{RoundInput}
use Rattle.katan.proofs.Tables.{both, both_left, both_right}
use Rattle.katan.proofs.Bits.{bit-zero}
use Rattle.katan.proofs.Keys.{k_next, zero_keys}
use Rattle.katan.proofs.Positions.{at_later}

-- ---- a zero key and a zero block rest at zero

abbrev pair : ℕ → ℕ → Registers
pair x y = record { l1 = x; l2 = y }

module _ (v : Row) where
  clock_rests : (u : RoundInput) → u.ka ≡ 0 → u.kb ≡ 0 → clock v u (pair 0 0) ≡ pair 0 0
  clock_rests u a b = simp (a, b, bit-zero, zero-mod)

  clocks_rest : (u : RoundInput) → u.ka ≡ 0 → u.kb ≡ 0 → (c : ℕ) → clocks v u c (pair 0 0) ≡ pair 0 0
  clocks_rest u a b zero = refl
  clocks_rest u a b (suc c) = ap (clock v u) (clocks_rest u a b c) ∙ clock_rests u a b

  run_rests : (u : ℕ → RoundInput) → ((r : ℕ) → ((u r).ka ≡ 0) × ((u r).kb ≡ 0)) → (p c : ℕ) → run v u p c (pair 0 0) ≡ pair 0 0
  run_rests u z p zero = refl
  run_rests u z p (suc c) = ap (round v (u (p + c))) (run_rests u z p c) ∙ clocks_rest (u (p + c)) (z (p + c)).0 (z (p + c)).1 v.clocks

  block_rests : (u : ℕ → RoundInput) → ((r : ℕ) → ((u r).ka ≡ 0) × ((u r).kb ≡ 0)) → (p : ℕ) → block v (run v u 0 p (registers v 0)) ≡ 0
  block_rests u z p =
      ap (λ (s : Registers). block v (run v u 0 p s)) (ap₂ pair (zero-div (2 ^ v.len2)) (zero-mod (2 ^ v.len2)))
      ∙ ap (block v) (run_rests u z 0 p)
      ∙ omega (arith, zero-mul (2 ^ v.len2))

passes : Case → Bool
passes (counts r t) = eqb (counter r) t
passes (irregular r ir) = eqb (ir_of (counter r)) ir
passes (picks r a b) = both (eqb (key_bit_number (2 * r)) a) (eqb (key_bit_number (2 * r + 1)) b)
passes (follows i a b c d) =
    both (leb key_length i) (both (both (eqb (i - 80) a) (eqb (i - 61) b)) (both (eqb (i - 50) c) (eqb (i - 13) d)))
passes (rests v) = true
passes (reaches v key x p y) = eqb (forward v key 0 p x) y

loaded_at_zero : (v key x p : ℕ) → registers_at v key 0 x p ≡ forward v key 0 p x
loaded_at_zero v key x p =
    let e : p - 0 ≡ p = omega arith in
    at_later v key 0 x p zero-le ∙ ap (λ (c : ℕ). forward v key 0 c x) e

says : (x : Case) → T (passes x) → Says x
unfolding Says passes
says (counts r t) p = eqb→eq (counter r) t p
says (irregular r ir) p = eqb→eq (ir_of (counter r)) ir p
says (picks r a b) p =
    let f = eqb (key_bit_number (2 * r)) a in
    let g = eqb (key_bit_number (2 * r + 1)) b in
    (eqb→eq (key_bit_number (2 * r)) a (both_left f g p), eqb→eq (key_bit_number (2 * r + 1)) b (both_right f g p))
says (follows i a b c d) p = λ key.
    let e = eqb (i - 80) a in
    let f = eqb (i - 61) b in
    let g = eqb (i - 50) c in
    let h = eqb (i - 13) d in
    let lo = leb key_length i in
    let r = both_left lo (both (both e f) (both g h)) p in
    let s = both_right lo (both (both e f) (both g h)) p in
    let t = both_left (both e f) (both g h) s in
    let w = both_right (both e f) (both g h) s in
    k_next key i (leb→le key_length i r)
    ∙ ap₂ xor
    (ap₂ xor (ap₂ xor (ap (k key) (eqb→eq (i - 80) a (both_left e f t))) (ap (k key) (eqb→eq (i - 61) b (both_right e f t))))
    (ap (k key) (eqb→eq (i - 50) c (both_left g h w))))
    (ap (k key) (eqb→eq (i - 13) d (both_right g h w)))
says (rests v) p = λ i h. loaded_at_zero v 0 0 i ∙ block_rests (row_of v) (input_of v 0) (zero_keys v) i
says (reaches v key x m y) p = loaded_at_zero v key x m ∙ eqb→eq (forward v key 0 m x) y p

all : List Case → Bool
all [] = true
all (x ∷ xs) = both (passes x) (all xs)

all_hold : (xs : List Case) → T (all xs) → Hold xs
unfolding all Hold
all_hold [] p = tt
all_hold (x ∷ xs) p = (says x (both_left (passes x) (all xs) p), all_hold xs (both_right (passes x) (all xs) p))

-- THEOREM: every starred case
pub starred : Hold table
unfolding all table passes input_of
starred = all_hold table tt
