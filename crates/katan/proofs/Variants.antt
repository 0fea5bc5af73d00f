-- Check 1 of a variant number, and the row that goes with it.
-- Assumes nothing.
use mathlib.Core.Path.{◌≡◌, refl, sym, ap, ◌∙◌}
use mathlib.Core.Bool.{Bool, true, false}
use mathlib.Core.List.{[]}
use mathlib.Core.Logic.{◌⊎◌, inl, inr, ⊎_elim}
use Prim.Native.Nat.{ℕ, zero, suc, ◌-◌, ◌<◌, ◌≤◌}
use native.Mathlib.Omega.{arith}
use Rattle.std.specs.Prelude.{Result, Ok, Err}
use borrow.Author.Tests.{ltb-false, ltb-true, leb-true, lt-ltb, le-ltb, le-leb}
use lib.Dec.{leb, ltb}
use lib.ListN.{get_or, get_or-eq_default}
use Rattle.katan.specs.Bit.{pick}
use Rattle.katan.specs.Variant.{row32, row48, row64, rows, row_of}
use Rattle.katan.specs.Stride.{stride_of}
use Rattle.katan.specs.Checks.{number_of, value, refused, outcome, variant_check}
use Rattle.katan.specs.Rows.{row_answer}
use Rattle.katan.specs.declared.Row.{Row}
use Rattle.katan.specs.declared.Refusal.{Refusal}
use Rattle.katan.proofs.Checked.{fault_first}

no_variant : (v : ℕ) → (v ≡ 1 → ⊥) → (v ≡ 2 → ⊥) → (v ≡ 3 → ⊥) → (v ≡ 4 → ⊥) → (v ≡ 5 → ⊥) → (v ≡ 6 → ⊥) → (variant_check v).fault ≡ true
no_variant zero a b c d e f = refl
no_variant (suc zero) a b c d e f = absurd (a refl)
no_variant (suc (suc zero)) a b c d e f = absurd (b refl)
no_variant (suc (suc (suc zero))) a b c d e f = absurd (c refl)
no_variant (suc (suc (suc (suc zero)))) a b c d e f = absurd (d refl)
no_variant (suc (suc (suc (suc (suc zero))))) a b c d e f = absurd (e refl)
no_variant (suc (suc (suc (suc (suc (suc zero)))))) a b c d e f = absurd (f refl)
no_variant (suc (suc (suc (suc (suc (suc (suc v))))))) a b c d e f =
    rw (le-leb 1 (suc (suc (suc (suc (suc (suc (suc v))))))) (omega arith), lt-ltb 6 (suc (suc (suc (suc (suc (suc (suc v))))))) (omega arith))

pub over_six_or_none : (v : ℕ) → (v ≡ 1 → ⊥) → (v ≡ 2 → ⊥) → (v ≡ 3 → ⊥) → (v ≡ 4 → ⊥) → (v ≡ 5 → ⊥) → (v ≡ 6 → ⊥) → refused 1 ≡ row_answer v
over_six_or_none v a b c d e f = sym (fault_first (variant_check v) [] (value (row_of v)) (no_variant v a b c d e f))

past_rows : (v : ℕ) → 6 < v → row32 ≡ row_of v
past_rows v h = sym (get_or-eq_default rows row32 {n = v - 1} (omega arith))

-- a number that check 1 refuses has the first row
pub first_row : (v : ℕ) → (variant_check v).fault ≡ true → row32 ≡ row_of v
first_row zero e = refl
first_row (suc v) e =
    let h : 6 < suc v = ltb-true 6 (suc v) (rw (le-leb 1 (suc v) (omega arith)) at e) in
    past_rows (suc v) h

-- what it means that check 1 finds no fault
pub record IsVariant (v : ℕ) (r : Row) : Type 0 where
  pub no_fault : (variant_check v).fault ≡ false
  pub is_row : r ≡ row_of v
  pub least : 1 ≤ v
  pub most : v ≤ 6

passed : (r w : Row) (b : Bool) → value r ≡ pick b (refused 1) (value w) → (b ≡ false) × (r ≡ w)
passed r w true e = let z : ◌≡◌ {A = ℕ} 0 1 = cc in absurd (omega arith)
passed r w false e = (refl, cc)

failed : (n : ℕ) (w : Row) (b : Bool) → refused n ≡ pick b (refused 1) (value w) → (b ≡ true) × (n ≡ 1)
failed n w true e = (refl, cc)
failed n w false e = let z : ◌≡◌ {A = ℕ} 0 1 = cc in absurd (omega arith)

within : (v : ℕ) (b : Bool) → leb 1 v ≡ b → pick b (ltb 6 v) true ≡ false → (1 ≤ v) × (v ≤ 6)
within v true e f = (leb-true 1 v e, ltb-false 6 v f)
within v false e f = let z : ◌≡◌ {A = ℕ} 0 1 = cc in absurd (omega arith)

pub is_variant : (v : ℕ) → (variant_check v).fault ≡ false → (1 ≤ v) × (v ≤ 6)
is_variant v e = within v (leb 1 v) refl e

pub variant_sound : (v : ℕ) → 1 ≤ v → v ≤ 6 → (variant_check v).fault ≡ false
variant_sound v least most = rw (le-leb 1 v least, le-ltb 6 v most)

pub row_found : (v : ℕ) (a : Result Row Refusal) (r : Row) → outcome a ≡ row_answer v → a ≡ Ok r → IsVariant v r
row_found v a r e f =
    let g = passed r (row_of v) (variant_check v).fault (ap outcome (sym f) ∙ e) in
    let w = within v (leb 1 v) refl g.0 in
    record { no_fault = g.0; is_row = g.1; least = w.0; most = w.1 }

pub row_refused : (v : ℕ) (a : Result Row Refusal) (r : Refusal) → outcome a ≡ row_answer v → a ≡ Err r → ((variant_check v).fault ≡ true) × (number_of r ≡ 1)
row_refused v a r e f = failed (number_of r) (row_of v) (variant_check v).fault (ap outcome (sym f) ∙ e)

-- ---- the row of a variant

row_by_number : (row : Row) (v a b : ℕ) → row ≡ row_of a → row ≡ row_of b → (v ≡ a) ⊎ (v ≡ b) → row ≡ row_of v
row_by_number row v a b e f c = ⊎_elim (λ g. e ∙ ap row_of (sym g)) (λ g. f ∙ ap row_of (sym g)) c

pub is_row48 : (v : ℕ) → (v ≡ 2) ⊎ (v ≡ 5) → row48 ≡ row_of v
is_row48 v c = row_by_number row48 v 2 5 refl refl c

pub is_row64 : (v : ℕ) → (v ≡ 3) ⊎ (v ≡ 6) → row64 ≡ row_of v
is_row64 v c = row_by_number row64 v 3 6 refl refl c

-- every other number has the first row
pub is_row32 : (v : ℕ) → ((v ≡ 2) ⊎ (v ≡ 5) → ⊥) → ((v ≡ 3) ⊎ (v ≡ 6) → ⊥) → row32 ≡ row_of v
is_row32 zero f g = refl
is_row32 (suc zero) f g = refl
is_row32 (suc (suc zero)) f g = absurd (f (inl refl))
is_row32 (suc (suc (suc zero))) f g = absurd (g (inl refl))
is_row32 (suc (suc (suc (suc zero)))) f g = refl
is_row32 (suc (suc (suc (suc (suc zero))))) f g = absurd (f (inr refl))
is_row32 (suc (suc (suc (suc (suc (suc zero)))))) f g = absurd (g (inr refl))
is_row32 (suc (suc (suc (suc (suc (suc (suc v))))))) f g = past_rows (suc (suc (suc (suc (suc (suc (suc v))))))) (omega arith)

-- ---- the rounds that are worked at once

stride_at : (i : ℕ) → (1 ≤ stride_of (get_or rows i row32)) × (stride_of (get_or rows i row32) ≤ 4)
stride_at zero = omega arith
stride_at (suc zero) = omega arith
stride_at (suc (suc zero)) = omega arith
stride_at (suc (suc (suc zero))) = omega arith
stride_at (suc (suc (suc (suc zero)))) = omega arith
stride_at (suc (suc (suc (suc (suc zero))))) = omega arith
stride_at (suc (suc (suc (suc (suc (suc i)))))) = omega arith

pub strides : (v : ℕ) → (1 ≤ stride_of (row_of v)) × (stride_of (row_of v) ≤ 4)
strides v = stride_at (v - 1)
