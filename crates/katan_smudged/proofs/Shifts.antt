-- A word shifts left by a bit: what leaves it does not come back in the lowest w bits.
-- Assumes nothing.
use mathlib.Core.Path.{◌≡◌, sym, ap, ◌∙◌}
use Prim.Native.Nat.{ℕ, ◌+◌, ◌-◌, ◌*◌, ◌%◌, ◌^◌, ◌<◌}
use native.Mathlib.Omega.{arith}
use Rattle.std.proofs.Math.Nat.{mod-add-mod}
use Rattle.std.proofs.Math.Pow.{mod-mod-pow}

pub shifted_word : (l b w : ℕ) → w < 64 → (l * 2 % 2 ^ 64 + b) % 2 ^ w ≡ (l * 2 + b) % 2 ^ w
shifted_word l b w h =
    let top : (64 - w) + w ≡ 64 = omega arith in
    sym (mod-add-mod (l * 2 % 2 ^ 64) (2 ^ w) b)
    ∙ ap (λ (x : ℕ). (x + b) % 2 ^ w) (ap (λ (n : ℕ). l * 2 % 2 ^ n % 2 ^ w) (sym top) ∙ mod-mod-pow (l * 2) (64 - w) w)
    ∙ mod-add-mod (l * 2) (2 ^ w) b
