-- Check 1 of the bench that lent memory says.
-- Assumes nothing.
use mathlib.Core.Path.{◌≡◌, refl, sym, ap, ◌∙◌}
use mathlib.Core.Bool.{Bool, true, false}
use mathlib.Core.List.{List}
use Prim.Native.Nat.{ℕ}
use lib.ListN.{length}
use Rattle.katan.specs.Bit.{pick}
use Rattle.katan.specs.Checks.{Outcome, refused}
use Rattle.bench.specs.declared.Bench.{Bench}
use Rattle.bench.specs.Bench.{held_check}
use Rattle.driver_layout.specs.Layout.{bench_length, bench_in, read_as}
use Rattle.driver_layout.proofs.Fitted.{bench_read}

-- what the code finds of the bench that it has read is what check 1 finds
pub held : (s : List ℕ) (b : Bench) {t x : Bool} → length s ≡ bench_length → b ≡ bench_in (read_as bench_length s)
    → t ≡ (held_check b).fault → t ≡ x → (held_check (bench_in s)).fault ≡ x
held s b n e f g = ap (λ (y : Bench). (held_check y).fault) (sym (bench_read s b n e)) ∙ sym f ∙ g

-- 1, or else 2
pub either : {A : Type 0} (t : Bool) → ◌≡◌ {A = Outcome A} (pick t (refused 1) (refused 2)) (refused (pick t 1 2))
either true = refl
either false = refl
