-- Check 16 of a key by its two words.
-- Assumes nothing.
use mathlib.Core.Path.{◌≡◌, refl, ap}
use mathlib.Core.Bool.{Bool, true, false, not, ◌||◌}
use Prim.Native.Nat.{ℕ, ◌+◌, ◌*◌, ◌^◌, ◌<◌}
use native.Mathlib.Omega.{arith}
use borrow.Author.Tests.{eq-eqb, ne_eqb, eqb-true, eqb-false}
use lib.Bits.{and_block}
use lib.Dec.{eqb}
use Rattle.katan.specs.Bit.{and}
use Rattle.katan_sheet.specs.Sheet.{contradicts}
use Rattle.katan_sheet.specs.Answers.{key_known}
use Rattle.katan_sheet.specs.declared.Known.{Known}
use Rattle.katan.specs.declared.Key.{Key}

module _ (key : Known Key) (p : key.ones.low < 2 ^ 64) (q : key.zeros.low < 2 ^ 64) where
  abbrev both : ℕ
  both = and (key_known key).ones (key_known key).zeros

  words : and (key_known key).ones (key_known key).zeros ≡ and key.ones.high key.zeros.high * 2 ^ 64 + and key.ones.low key.zeros.low
  words = and_block 64 key.ones.high key.zeros.high key.ones.low key.zeros.low p q

  -- in the low words
  low_clash : (and key.ones.low key.zeros.low ≡ 0 → ⊥) → contradicts (key_known key) ≡ true
  low_clash h = ap not (ne_eqb both 0 (λ e. h (omega (arith, words, e))))

  -- where there is none, in the high words
  high_clash : and key.ones.low key.zeros.low ≡ 0 → contradicts (key_known key) ≡ not (eqb (and key.ones.high key.zeros.high) 0)
  high_clash l = ap not (same (eqb (and key.ones.high key.zeros.high) 0) refl)
    where
      same : (b : Bool) → eqb (and key.ones.high key.zeros.high) 0 ≡ b → eqb (and (key_known key).ones (key_known key).zeros) 0 ≡ b
      same true e = eq-eqb both 0 (omega (arith, words, eqb-true (and key.ones.high key.zeros.high) 0 e, l))
      same false e = ne_eqb both 0 (λ z. eqb-false (and key.ones.high key.zeros.high) 0 e (omega (arith, words, z, l)))

  -- in either
  pub key_clash : contradicts (key_known key) ≡ not (eqb (and key.ones.low key.zeros.low) 0) || not (eqb (and key.ones.high key.zeros.high) 0)
  key_clash = cases (eqb (and key.ones.low key.zeros.low) 0) refl
    where
      cases : (b : Bool) → eqb (and key.ones.low key.zeros.low) 0 ≡ b → contradicts (key_known key) ≡ not b || not (eqb (and key.ones.high key.zeros.high) 0)
      cases true e = high_clash (eqb-true (and key.ones.low key.zeros.low) 0 e)
      cases false e = low_clash (eqb-false (and key.ones.low key.zeros.low) 0 e)
