-- A clock at the places of its registers: what stands at each of them before and after it.
-- Assumes nothing.
use mathlib.Core.Path.{◌≡◌, sym, ap, ◌∙◌}
use Prim.Native.Nat.{ℕ, zero, suc, ◌+◌, ◌<◌}
use native.Mathlib.Omega.{arith}
use Rattle.katan.specs.Bit.{bit, xor, and}
use Rattle.katan.specs.Clock.{fa, fb, shift_in, clock}
use Rattle.katan.specs.inner.Within.{Sound, Bits}
use Rattle.katan.specs.declared.Row.{Row}
use Rattle.katan.specs.declared.Registers.{Registers}
use Rattle.katan.specs.declared.RoundInput.{RoundInput}
use Rattle.katan.proofs.Bits.{fa_bit, fb_bit}
use Rattle.katan.proofs.Shift.{in_lowest, in_higher}
use Rattle.katan.proofs.Undo.{fa_same, fb_same}

-- p and q have the bits of the registers g at their places
pub record Shows (v : Row) (p q : ℕ → ℕ) (g : Registers) : Type 0 where
  pub shows1 : (i : ℕ) → i < v.len1 → p i ≡ bit g.l1 i
  pub shows2 : (i : ℕ) → i < v.len2 → q i ≡ bit g.l2 i

-- a register of m + 1 bits, whose length is w, and the bit b that enters it
module _ (m w l b : ℕ) (p p' : ℕ → ℕ) (e : m + 1 ≡ w) (small : b < 2) (held : (i : ℕ) → i < w → p i ≡ bit l i) (low : p' 0 ≡ b) (up : (i : ℕ) → i < m → p' (suc i) ≡ p i) where
  pub pushed : (i : ℕ) → i < w → p' i ≡ bit (shift_in w l b) i
  pushed zero q = low ∙ sym (in_lowest m l b small) ∙ ap (λ (n : ℕ). bit (shift_in n l b) 0) e
  pushed (suc i) q =
      up i (omega arith) ∙ held i (omega arith) ∙ sym (in_higher m l b i small (omega arith)) ∙ ap (λ (n : ℕ). bit (shift_in n l b) (suc i)) e

-- the lowest places take what the formulas make of the places before, and each other place the one below it
module _ (v : Row) (s : Sound v) (u : RoundInput) (b : Bits u) (g : Registers) (p q p' q' : ℕ → ℕ) (h : Shows v p q g) where
  pub clock_shows : p' 0 ≡ fb xor and v q u.kb → q' 0 ≡ fa xor and v p u.ir u.ka → ((i : ℕ) → i < v.x1 → p' (suc i) ≡ p i) → ((i : ℕ) → i < v.y1 → q' (suc i) ≡ q i)
      → Shows v p' q' (clock v u g)
  clock_shows low1 low2 up1 up2 =
      record {
        shows1 =
            pushed v.x1 v.len1 g.l1 _ p p' s.top1 (fb_bit v g.l2 b.kb_bit) h.shows1
            (low1 ∙ fb_same xor and v s q (bit g.l2) u.kb h.shows2) up1;
        shows2 =
            pushed v.y1 v.len2 g.l2 _ q q' s.top2 (fa_bit v g.l1 b.ir_bit b.ka_bit) h.shows2
            (low2 ∙ fa_same xor and v s p (bit g.l1) u.ir u.ka h.shows1) up2;
      }
