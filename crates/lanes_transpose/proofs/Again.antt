-- A swap again undoes it.
-- Assumes nothing.
use mathlib.Core.Path.{◌≡◌, refl, sym, ap, ◌∙◌}
use mathlib.Core.Bool.{Bool, true, false}
use Prim.Native.Nat.{ℕ, ◌+◌, ◌-◌, ◌*◌, ◌/◌, ◌%◌, ◌^◌, ◌<◌, ◌≤◌}
use native.Mathlib.Nat.{mod-lt, lt_of_lt_of_le, lt_of_le_of_lt, div-eq_of_lt}
use native.Mathlib.Omega.{arith}
use borrow.Author.Tests.{ltb-true, ltb-false}
use lib.Bits.{xor_lt, and_le_r}
use lib.Dec.{ltb}
use lib.Pow.{pow_pos, pow_mono}
use Rattle.katan.specs.Bit.{bit, xor}
use Rattle.katan.proofs.Bits.{bit_lt, bit-shl, bits_equal}
use Rattle.lanes_transpose.specs.inner.Stage.{difference, swapped_low, swapped_high}
use Rattle.lanes_transpose.proofs.Pair.{Mask, clear_at, above_at, low_keeps, low_takes, high_keeps, high_takes}
use Rattle.lanes_transpose.proofs.Places.{set_le}

beyond : (x c : ℕ) → x < 2 ^ 64 → 64 ≤ c → bit x c ≡ 0
beyond x c h q = ap (λ (y : ℕ). y % 2) (div-eq_of_lt (lt_of_lt_of_le h (pow_mono {i = 64} {j = c} q)))

-- the mask and the mask shifted up are words
module _ (p mask : ℕ) (m : Mask p (2 ^ p) mask) (hm : mask < 2 ^ 64) (hs : mask * 2 ^ (2 ^ p) < 2 ^ 64) (low high : ℕ) (hl : low < 2 ^ 64) (hh : high < 2 ^ 64) where
  abbrev lo : ℕ
  lo = swapped_low (2 ^ p) mask low high

  abbrev hi : ℕ
  hi = swapped_high (2 ^ p) mask low high

  pub low_lt : (x y : ℕ) → x < 2 ^ 64 → swapped_low (2 ^ p) mask x y < 2 ^ 64
  unfolding swapped_low
  low_lt x y h = xor_lt 64 x (difference (2 ^ p) mask x y * 2 ^ (2 ^ p) % 2 ^ 64) h (mod-lt (difference (2 ^ p) mask x y * 2 ^ (2 ^ p)) (pow_pos 64))

  pub high_lt : (x y : ℕ) → y < 2 ^ 64 → swapped_high (2 ^ p) mask x y < 2 ^ 64
  unfolding swapped_high difference
  high_lt x y h = xor_lt 64 y (difference (2 ^ p) mask x y) h (lt_of_le_of_lt (and_le_r (xor (x / 2 ^ (2 ^ p)) y) mask) hm)

  -- a column whose number has bit p clear, and the one 2 ^ p above
  mate : (c : ℕ) → c < 64 → bit c p ≡ 0 → (2 ^ p + c < 64) × (bit (2 ^ p + c) p ≡ 1)
  mate c h z =
      let one : bit (mask * 2 ^ (2 ^ p)) (2 ^ p + c) ≡ 1
      = bit-shl mask (2 ^ p) c ∙ clear_at p (2 ^ p) mask m low high c h ∙ ap (λ (y : ℕ). 1 - y) z in
      let q = below (2 ^ p + c) one (ltb (2 ^ p + c) 64) refl in
      (q, sym (above_at p (2 ^ p) mask m low high (2 ^ p + c) q) ∙ one)
    where
      below : (k : ℕ) → bit (mask * 2 ^ (2 ^ p)) k ≡ 1 → (b : Bool) → ltb k 64 ≡ b → k < 64
      below k o true e = ltb-true k 64 e
      below k o false e = absurd (omega (arith, o, beyond (mask * 2 ^ (2 ^ p)) k hs (ltb-false k 64 e)))

  -- a column whose number has bit p set, and the one 2 ^ p below
  partner : (c : ℕ) → c < 64 → bit c p ≡ 1 → (2 ^ p + (c - 2 ^ p) ≡ c) × (bit (c - 2 ^ p) p ≡ 0)
  partner c h o =
      let d = c - 2 ^ p in
      let u : 2 ^ p + d ≡ c = omega (arith, set_le c p o) in
      let f : bit mask d ≡ 1 = sym (bit-shl mask (2 ^ p) d) ∙ ap (bit (mask * 2 ^ (2 ^ p))) u ∙ above_at p (2 ^ p) mask m low high c h ∙ o in
      (u, omega (arith, clear_at p (2 ^ p) mask m low high d (omega arith), f, bit_lt d p))

  pub low_again : swapped_low (2 ^ p) mask lo hi ≡ low
  low_again = bits_equal 64 (swapped_low (2 ^ p) mask lo hi) low (low_lt lo hi (low_lt low high hl)) hl (λ c q. by_bit c q (ltb (bit c p) 1) refl)
    where
      by_bit : (c : ℕ) → c < 64 → (b : Bool) → ltb (bit c p) 1 ≡ b → bit (swapped_low (2 ^ p) mask lo hi) c ≡ bit low c
      by_bit c q true e =
          let z : bit c p ≡ 0 = omega (arith, ltb-true (bit c p) 1 e) in
          low_keeps p (2 ^ p) mask m lo hi c q z ∙ low_keeps p (2 ^ p) mask m low high c q z
      by_bit c q false e =
          let o : bit c p ≡ 1 = omega (arith, ltb-false (bit c p) 1 e, bit_lt c p) in
          let w = partner c q o in
          let d = c - 2 ^ p in
          ap (bit (swapped_low (2 ^ p) mask lo hi)) (sym w.0)
          ∙ low_takes p (2 ^ p) mask m lo hi d (omega (arith, w.0)) w.1
          ∙ high_takes p (2 ^ p) mask m low high d (omega (arith, w.0)) (ap (λ (y : ℕ). bit y p) w.0 ∙ o)
          ∙ ap (bit low) w.0

  pub high_again : swapped_high (2 ^ p) mask lo hi ≡ high
  high_again = bits_equal 64 (swapped_high (2 ^ p) mask lo hi) high (high_lt lo hi (high_lt low high hh)) hh (λ c q. by_bit c q (ltb (bit c p) 1) refl)
    where
      by_bit : (c : ℕ) → c < 64 → (b : Bool) → ltb (bit c p) 1 ≡ b → bit (swapped_high (2 ^ p) mask lo hi) c ≡ bit high c
      by_bit c q true e =
          let z : bit c p ≡ 0 = omega (arith, ltb-true (bit c p) 1 e) in
          let w = mate c q z in
          high_takes p (2 ^ p) mask m lo hi c w.0 w.1 ∙ low_takes p (2 ^ p) mask m low high c w.0 z
      by_bit c q false e =
          let o : bit c p ≡ 1 = omega (arith, ltb-false (bit c p) 1 e, bit_lt c p) in
          high_keeps p (2 ^ p) mask m lo hi c q o ∙ high_keeps p (2 ^ p) mask m low high c q o
