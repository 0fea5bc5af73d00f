-- A number in two words, its shifts and the low bits of its shifts.
-- Assumes nothing.
use mathlib.Core.Path.{◌≡◌, sym, ap, ap₂, ◌∙◌}
use Prim.Native.Nat.{ℕ, ◌+◌, ◌-◌, ◌*◌, ◌/◌, ◌%◌, ◌^◌, ◌<◌, ◌≤◌}
use native.Mathlib.Nat.{add_comm, add-mul, mul_assoc, mul_right_comm, add-sub_of_le, add-mul-div_right}
use native.Mathlib.Omega.{arith}
use lib.Bits.{xor_mod}
use lib.Pow.{pow_pos, pow-add, shr-shr, shl-shr, high, low, mod-mod-pow, field}
use Rattle.katan.specs.Bit.{xor}
use Rattle.katan.proofs.Bits.{raised}

-- the low s bits of an xor of four go by theirs
four_low : (s a b c d : ℕ) → xor (xor (xor a b) c) d % 2 ^ s ≡ xor (xor (xor (a % 2 ^ s) (b % 2 ^ s)) (c % 2 ^ s)) (d % 2 ^ s)
four_low s a b c d =
    xor_mod _ d s ∙ ap (λ (x : ℕ). xor x (d % 2 ^ s)) (xor_mod _ c s ∙ ap (λ (x : ℕ). xor x (c % 2 ^ s)) (xor_mod a b s))

pub low_same : (s a b c d a' b' c' d' : ℕ) → a % 2 ^ s ≡ a' % 2 ^ s → b % 2 ^ s ≡ b' % 2 ^ s → c % 2 ^ s ≡ c' % 2 ^ s → d % 2 ^ s ≡ d' % 2 ^ s
    → xor (xor (xor a b) c) d % 2 ^ s ≡ xor (xor (xor a' b') c') d' % 2 ^ s
low_same s a b c d a' b' c' d' e f g h = four_low s a b c d ∙ ap₂ xor (ap₂ xor (ap₂ xor e f) g) h ∙ sym (four_low s a' b' c' d')

-- before it was shifted up, the number stood lower
pub stood_lower : (x s j : ℕ) → s ≤ j → x / 2 ^ (j - s) ≡ (x * 2 ^ s) / 2 ^ j
stood_lower x s j r =
    ap (λ (y : ℕ). y / 2 ^ (j - s)) (sym (shl-shr x s)) ∙ shr-shr (x * 2 ^ s) s (j - s) ∙ ap (λ (n : ℕ). (x * 2 ^ s) / 2 ^ n) (add-sub_of_le r)

module _ (h : ℕ) {l : ℕ} (q : l < 2 ^ 64) where
  x : ℕ
  x = h * 2 ^ 64 + l

  -- the low s bits of the number shifted down by j: the low word's, or the high word's
  pub from_low : (j s : ℕ) → j + s ≤ 64 → (h * 2 ^ 64 + l) / 2 ^ j % 2 ^ s ≡ l / 2 ^ j % 2 ^ s
  unfolding x
  from_low j s r =
      let m = 64 - j - s in
      let e : 64 ≡ (m + s) + j = omega arith in
      sym (mod-mod-pow (x / 2 ^ j) m s)
      ∙ ap (λ (y : ℕ). y % 2 ^ s) (sym (field x (m + s) j) ∙ ap (λ (n : ℕ). x % 2 ^ n / 2 ^ j) (sym e) ∙ ap (λ (y : ℕ). y / 2 ^ j) (low h 64 q))

  pub from_high : (i : ℕ) → (h * 2 ^ 64 + l) / 2 ^ (64 + i) ≡ h / 2 ^ i
  from_high i = sym (shr-shr (h * 2 ^ 64 + l) 64 i) ∙ ap (λ (y : ℕ). y / 2 ^ i) (high h 64 q)

  -- the number shifted down by s: the high word, and the low word with h's low s bits above its own
  pub shifted_down : (s : ℕ) → s ≤ 64 → (h * 2 ^ 64 + l) / 2 ^ s ≡ h / 2 ^ s * 2 ^ 64 + ((h % 2 ^ s) * 2 ^ (64 - s) + l / 2 ^ s)
  shifted_down s r =
      let m = 64 - s in
      let word : m + s ≡ 64 = omega arith in
      let up : h * 2 ^ 64 ≡ h * 2 ^ m * 2 ^ s = ap (λ (n : ℕ). h * 2 ^ n) (sym word) ∙ ap (h *◌) (pow-add 2 m s) ∙ sym (mul_assoc h (2 ^ m) (2 ^ s)) in
      ap (λ (y : ℕ). y / 2 ^ s) (add_comm (h * 2 ^ 64) l ∙ ap (l +◌) up)
      ∙ add-mul-div_right l (h * 2 ^ m) (pow_pos s)
      ∙ omega (arith, raised h s m (omega arith))

  -- and shifted up by s: the low word's highest s bits go up to the high word
  pub shifted_up : (s m : ℕ) → m + s ≡ 64 → (h * 2 ^ 64 + l) * 2 ^ s ≡ (h * 2 ^ s + l / 2 ^ m) * 2 ^ 64 + (l % 2 ^ m) * 2 ^ s
  shifted_up s m word =
      omega (arith, add-mul (h * 2 ^ 64) l (2 ^ s), mul_right_comm h (2 ^ 64) (2 ^ s), raised l m s word)
