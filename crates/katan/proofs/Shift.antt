-- A register of m + 1 bits, whose highest is bit m: what a shift in and a shift out do to its bits.
-- Assumes nothing.
use mathlib.Core.Path.{◌≡◌, sym, ap, ◌∙◌}
use Prim.Native.Nat.{ℕ, suc, ◌+◌, ◌*◌, ◌/◌, ◌%◌, ◌^◌, ◌<◌}
use native.Mathlib.Nat.{mul_assoc}
use native.Mathlib.Omega.{arith}
use lib.Pow.{pow-add, field, high, low, mod-mod-pow, recompose, shr_lt}
use Rattle.katan.specs.Bit.{bit, xor}
use Rattle.katan.specs.Clock.{shift_in, shift_out}
use Rattle.katan.proofs.Bits.{bit_lt, xor-bit, bit-mod, bit_lowest, bit-suc, bit_below, bit_top, top_lt, xor_twice}

pub in_lowest : (m l b : ℕ) → b < 2 → bit (shift_in (m + 1) l b) 0 ≡ b
in_lowest m l b h = bit_lowest (shift_in (m + 1) l b) ∙ mod-mod-pow (l * 2 + b) m 1 ∙ low l 1 h

-- the other bits move up
pub in_higher : (m l b i : ℕ) → b < 2 → i < m → bit (shift_in (m + 1) l b) (suc i) ≡ bit l i
in_higher m l b i h q =
    bit-mod (m + 1) (l * 2 + b) (suc i) (omega arith) ∙ bit-suc (l * 2 + b) i ∙ ap (λ (y : ℕ). bit y i) (high l 1 h)

in_rest : (m l b : ℕ) → b < 2 → shift_in (m + 1) l b / 2 ≡ l % 2 ^ m
in_rest m l b h = field (l * 2 + b) m 1 ∙ ap (λ (y : ℕ). y % 2 ^ m) (high l 1 h)

out_highest : (m l t : ℕ) → l < 2 ^ (m + 1) → t < 2 → bit (shift_out m l t) m ≡ t
out_highest m l t h q = bit_top m t (shr_lt m 1 h) q

out_rest : (m l t i : ℕ) → l < 2 ^ (m + 1) → i < m → bit (shift_out m l t) i ≡ bit (l / 2) i
out_rest m l t i h q = bit_below m t (shr_lt m 1 h) i q

pub out_lt : (m l t : ℕ) → l < 2 ^ (m + 1) → t < 2 → shift_out m l t < 2 ^ (m + 1)
out_lt m l t h q = top_lt m t (shr_lt m 1 h) q

pub in_out : (m l t : ℕ) → l < 2 ^ (m + 1) → shift_in (m + 1) (shift_out m l t) (bit l 0) ≡ l
in_out m l t h =
    let e : t * 2 ^ (m + 1) ≡ t * 2 ^ m * 2 = ap (λ (y : ℕ). t * y) (pow-add 2 m 1) ∙ sym (mul_assoc t (2 ^ m) 2) in
    let s : shift_out m l t * 2 + bit l 0 ≡ t * 2 ^ (m + 1) + l = omega (arith, e, bit_lowest l) in
    ap (λ (y : ℕ). y % 2 ^ (m + 1)) s ∙ low t (m + 1) h

-- the formula of one register is its highest bit xor a rest that its bits below m make
module _ (m : ℕ) (rest : (ℕ → ℕ) → ℕ) (same : (f g : ℕ → ℕ) → ((i : ℕ) → i < m → f i ≡ g i) → rest f ≡ rest g) (small : (l : ℕ) → rest (bit l) < 2) where
  -- with c the formula's value on l, the way back finds l again
  pub out_in : (l b c : ℕ) → l < 2 ^ (1 + m) → b < 2 → c ≡ xor (bit l m) (rest (bit l))
      → shift_out m (shift_in (m + 1) l b) (xor c (rest (bit (shift_in (m + 1) l b / 2)))) ≡ l
  out_in l b c h q e =
      ap (λ (x : ℕ). xor c (rest (bit x)) * 2 ^ m + x) (in_rest m l b q)
      ∙ ap (λ (x : ℕ). xor c x * 2 ^ m + l % 2 ^ m) (same (bit (l % 2 ^ m)) (bit l) (λ i p. bit-mod m l i p))
      ∙ ap (λ (x : ℕ). xor x (rest (bit l)) * 2 ^ m + l % 2 ^ m) e
      ∙ ap (λ (x : ℕ). x * 2 ^ m + l % 2 ^ m) (xor_twice (bit l m) (rest (bit l)) (bit_lt l m) (small l))
      ∙ recompose 1 m h

  -- on the register that the way back makes of l and c, the formula's value is c
  pub formula_out : (l c : ℕ) → l < 2 ^ (m + 1) → c < 2
      → xor (bit (shift_out m l (xor c (rest (bit (l / 2))))) m) (rest (bit (shift_out m l (xor c (rest (bit (l / 2))))))) ≡ c
  formula_out l c h q =
      let t = xor c (rest (bit (l / 2))) in
      ap (λ (x : ℕ). xor x (rest (bit (shift_out m l t)))) (out_highest m l t h (xor-bit q (small (l / 2))))
      ∙ ap (xor t) (same (bit (shift_out m l t)) (bit (l / 2)) (λ i p. out_rest m l t i h p))
      ∙ xor_twice c (rest (bit (l / 2))) q (small (l / 2))
