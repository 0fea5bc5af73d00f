-- The bits of a pair of rows after the swap, under a mask that goes by one bit of the column's number.
-- Assumes nothing.
use mathlib.Core.Path.{◌≡◌, refl, sym, ap, ◌∙◌}
use mathlib.Core.List.{List}
use Prim.Native.Nat.{ℕ, zero, suc, ◌+◌, ◌-◌, ◌*◌, ◌/◌, ◌%◌, ◌^◌, ◌<◌}
use native.Mathlib.Omega.{arith}
use lib.ListN.{get_or}
use lib.Bits.{and_zero_r, xor_zero_r, xor_comm}
use Rattle.katan.specs.Bit.{bit, xor, and, tabulate}
use Rattle.katan.proofs.Bits.{bit_lt, bit-mod, bit_xor, bit_and, bit-shr, bit-shl, and-shl}
use Rattle.katan.proofs.Tables.{entry}
use Rattle.lanes_transpose.specs.inner.Stage.{difference, swapped_low, swapped_high}

-- the mask has the columns whose number has bit p clear and, shifted up, those that have it set; at numbers, both sides compute
abbrev pub Mask : (p shift mask : ℕ) → Type 0
Mask p shift mask = (tabulate (bit mask) 0 64 ≡ tabulate (λ c. 1 - bit c p) 0 64) × (tabulate (bit (mask * 2 ^ shift)) 0 64 ≡ tabulate (λ c. bit c p) 0 64)

from_table : (f g : ℕ → ℕ) → tabulate f 0 64 ≡ tabulate g 0 64 → (c : ℕ) → c < 64 → f c ≡ g c
from_table f g e c h = sym (entry f 64 c 0 h) ∙ ap (λ (l : List ℕ). get_or l c 0) e ∙ entry g 64 c 0 h

-- ---- xor with the masked difference keeps a bit, or takes the other

kept : (x y z : ℕ) → z ≡ 0 → xor x (and y z) ≡ x
kept x y z e = ap (λ (w : ℕ). xor x (and y w)) e ∙ ap (xor x) (and_zero_r y) ∙ xor_zero_r x

taken_one : (x y : ℕ) → x < 2 → y < 2 → xor x (and (xor x y) 1) ≡ y
taken_one zero zero h k = refl
taken_one zero (suc zero) h k = refl
taken_one (suc zero) zero h k = refl
taken_one (suc zero) (suc zero) h k = refl
taken_one zero (suc (suc y)) h k = absurd (omega arith)
taken_one (suc zero) (suc (suc y)) h k = absurd (omega arith)
taken_one (suc (suc x)) y h k = absurd (omega arith)

taken : (x y i j z : ℕ) → z ≡ 1 → xor (bit x i) (and (xor (bit x i) (bit y j)) z) ≡ bit y j
taken x y i j z e = ap (λ (w : ℕ). xor (bit x i) (and (xor (bit x i) (bit y j)) w)) e ∙ taken_one (bit x i) (bit y j) (bit_lt x i) (bit_lt y j)

module _ (p shift mask : ℕ) (m : Mask p shift mask) (low high : ℕ) where
  pub clear_at : (c : ℕ) → c < 64 → bit mask c ≡ 1 - bit c p
  clear_at = from_table (bit mask) (λ c. 1 - bit c p) m.0

  pub above_at : (c : ℕ) → c < 64 → bit (mask * 2 ^ shift) c ≡ bit c p
  above_at = from_table (bit (mask * 2 ^ shift)) (λ c. bit c p) m.1

  shifted_at : (c : ℕ) → bit (xor (low / 2 ^ shift) high) c ≡ xor (bit low (shift + c)) (bit high c)
  shifted_at c = bit_xor (low / 2 ^ shift) high c ∙ ap (λ (z : ℕ). xor z (bit high c)) (bit-shr low shift c)

  low_at : (c : ℕ) → c < 64
      → bit (swapped_low shift mask low high) c ≡ xor (bit low c) (and (bit (xor (low / 2 ^ shift) high * 2 ^ shift) c) (bit (mask * 2 ^ shift) c))
  unfolding swapped_low difference
  low_at c h =
      bit_xor low (difference shift mask low high * 2 ^ shift % 2 ^ 64) c
      ∙ ap (xor (bit low c))
      (bit-mod 64 (difference shift mask low high * 2 ^ shift) c h
      ∙ ap (λ (z : ℕ). bit z c) (and-shl (xor (low / 2 ^ shift) high) mask shift)
      ∙ bit_and (xor (low / 2 ^ shift) high * 2 ^ shift) (mask * 2 ^ shift) c)

  high_at : (c : ℕ) → bit (swapped_high shift mask low high) c ≡ xor (bit high c) (and (xor (bit high c) (bit low (shift + c))) (bit mask c))
  unfolding swapped_high difference
  high_at c =
      bit_xor high (difference shift mask low high) c
      ∙ ap (xor (bit high c))
      (bit_and (xor (low / 2 ^ shift) high) mask c
      ∙ ap (λ (z : ℕ). and z (bit mask c)) (shifted_at c ∙ xor_comm (bit low (shift + c)) (bit high c)))

  pub low_keeps : (c : ℕ) → c < 64 → bit c p ≡ 0 → bit (swapped_low shift mask low high) c ≡ bit low c
  low_keeps c h e = low_at c h ∙ kept (bit low c) (bit (xor (low / 2 ^ shift) high * 2 ^ shift) c) _ (above_at c h ∙ e)

  pub high_keeps : (c : ℕ) → c < 64 → bit c p ≡ 1 → bit (swapped_high shift mask low high) c ≡ bit high c
  high_keeps c h e = high_at c ∙ kept (bit high c) (xor (bit high c) (bit low (shift + c))) _ (clear_at c h ∙ ap (λ (z : ℕ). 1 - z) e)

  pub low_takes : (c : ℕ) → shift + c < 64 → bit c p ≡ 0 → bit (swapped_low shift mask low high) (shift + c) ≡ bit high c
  low_takes c h e =
      low_at (shift + c) h
      ∙ ap (λ (z : ℕ). xor (bit low (shift + c)) (and z (bit (mask * 2 ^ shift) (shift + c)))) (bit-shl (xor (low / 2 ^ shift) high) shift c ∙ shifted_at c)
      ∙ taken low high (shift + c) c _ (bit-shl mask shift c ∙ clear_at c (omega arith) ∙ ap (λ (z : ℕ). 1 - z) e)

  pub high_takes : (c : ℕ) → shift + c < 64 → bit (shift + c) p ≡ 1 → bit (swapped_high shift mask low high) c ≡ bit low (shift + c)
  high_takes c h e = high_at c ∙ taken high low c (shift + c) _ (sym (bit-shl mask shift c) ∙ above_at (shift + c) h ∙ e)
