-- Shifted words: what the code's sums and products of them are, and that they fit.
-- Assumes nothing.
use mathlib.Core.Path.{◌≡◌, sym, ap, subst, ◌∙◌}
use Prim.Native.Nat.{ℕ, ◌+◌, ◌-◌, ◌*◌, ◌/◌, ◌%◌, ◌^◌, ◌<◌, ◌≤◌}
use native.Mathlib.Nat.{mod-lt, lt_of_lt_of_le}
use native.Mathlib.Omega.{arith}
use lib.Pow.{pow_pos, pow_mono, low, mod-mod-pow, shl_exact, shl_lt, shr_lt}
use Rattle.katan.proofs.Bits.{one_shifted, raised, lifted, joined_lt}

module _ (l c b : ℕ) (h : c < 64) where
  -- what enters stands below a word that is shifted up, and loses what does not fit
  sum : (l * 2 ^ c) % 2 ^ 64 + b % 2 ^ c ≡ (l * 2 ^ c + b % 2 ^ c) % 2 ^ 64
  sum =
      let s = 64 - c in
      let word : s + c ≡ 64 = omega arith in
      let new : ℕ = b % 2 ^ c in
      let fits : l % 2 ^ s * 2 ^ c + new < 2 ^ 64 = subst (λ (n : ℕ). l % 2 ^ s * 2 ^ c + new < 2 ^ n) word (joined_lt c (l % 2 ^ s) (mod-lt b (pow_pos c)) s (mod-lt l (pow_pos s))) in
      let whole : l * 2 ^ c + new ≡ l / 2 ^ s * 2 ^ 64 + (l % 2 ^ s * 2 ^ c + new) = omega (arith, raised l s c word) in
      ap (◌+ new) (lifted l s c word) ∙ sym (ap (λ (x : ℕ). x % 2 ^ 64) whole ∙ low (l / 2 ^ s) 64 fits)

  pub sum_fits : (l * 2 ^ c) % 2 ^ 64 + b % ((1 * 2 ^ c) % 2 ^ 64) < 2 ^ 64
  sum_fits = rw (one_shifted c h, sum) (mod-lt (l * 2 ^ c + b % 2 ^ c) (pow_pos 64))

  pub entered : (n : ℕ) → n < 64 → ((l * 2 ^ c) % 2 ^ 64 + b % ((1 * 2 ^ c) % 2 ^ 64)) % ((1 * 2 ^ n) % 2 ^ 64) ≡ (l * 2 ^ c + b % 2 ^ c) % 2 ^ n
  entered n q =
      let parts : 64 ≡ (64 - n) + n = omega arith in
      let x = l * 2 ^ c + b % 2 ^ c in
      rw (one_shifted c h, one_shifted n q, sum) (ap (λ (m : ℕ). x % 2 ^ m % 2 ^ n) parts ∙ mod-mod-pow x (64 - n) n)

-- the lowest c bits of t at the highest places of a register of n bits
module _ (n c t : ℕ) (h : n < 64) (q : c ≤ n) where
  highest : (t % ((1 * 2 ^ c) % 2 ^ 64) * 2 ^ (n - c)) % 2 ^ 64 ≡ t % 2 ^ c * 2 ^ (n - c)
  highest =
      ap (λ (m : ℕ). (t % m * 2 ^ (n - c)) % 2 ^ 64) (one_shifted c (omega arith))
      ∙ shl_exact {a = t % 2 ^ c} c (n - c) 64 (mod-lt t (pow_pos c)) (omega arith)

  pub restored : (l : ℕ) → (t % ((1 * 2 ^ c) % 2 ^ 64) * 2 ^ (n - c)) % 2 ^ 64 + l / 2 ^ c ≡ t % 2 ^ c * 2 ^ (n - c) + l / 2 ^ c
  restored l = ap (λ (x : ℕ). x + l / 2 ^ c) highest

  pub restored_fits : (l : ℕ) → l < 2 ^ 64 → 1 ≤ c → (t % ((1 * 2 ^ c) % 2 ^ 64) * 2 ^ (n - c)) % 2 ^ 64 + l / 2 ^ c < 2 ^ 64
  restored_fits l f some =
      let place : c + (n - c) ≡ n = omega arith in
      let parts : 64 ≡ (64 - c) + c = omega arith in
      let top : t % 2 ^ c * 2 ^ (n - c) < 2 ^ n = subst (λ (m : ℕ). t % 2 ^ c * 2 ^ (n - c) < 2 ^ m) place (shl_lt {a = t % 2 ^ c} c (n - c) (mod-lt t (pow_pos c))) in
      let half : 2 ^ n ≤ 2 ^ 63 = pow_mono {i = n} {j = 63} (omega arith) in
      let rest : l / 2 ^ c < 2 ^ 63
      = lt_of_lt_of_le (shr_lt (64 - c) c (subst (λ (m : ℕ). l < 2 ^ m) parts f)) (pow_mono {i = 64 - c} {j = 63} (omega arith)) in
      omega (arith, highest, top, half, rest)
