-- What a call returns and leaves in lent memory.
-- Assumes nothing.
use mathlib.Core.Path.{◌≡◌, subst}
use mathlib.Core.List.{List}
use Prim.Native.Nat.{ℕ}
use Rattle.katan.specs.Checks.{Outcome}
use Rattle.katan.specs.Lent.{status_of, lent_after}

-- status and lent memory of an answer are those of what the answer says
pub same_answer : {A : Type 0} (f : A → List ℕ) (old : List ℕ) {o p : Outcome A} {r : ℕ} {new : List ℕ} → o ≡ p
    → (r ≡ status_of o) × (new ≡ lent_after f o old) → (r ≡ status_of p) × (new ≡ lent_after f p old)
same_answer f old {r = r} {new} e g = subst (λ (x : Outcome _). (r ≡ status_of x) × (new ≡ lent_after f x old)) e g
