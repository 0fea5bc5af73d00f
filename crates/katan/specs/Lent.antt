-- What a call returns to a driver, and leaves in the memory lent to it.
-- Assumes nothing.
use Rattle.std.specs.Prelude.{ℕ, List, eqb, length}
use Rattle.katan.specs.Bit.{pick}
use Rattle.katan.specs.Checks.{Outcome, value, refused}

-- the status that it returns: 0, or the refusal's number
abbrev pub status_of : {A : Type 0} → Outcome A → ℕ
status_of (value x) = 0
status_of (refused k) = k

-- what lent memory holds afterwards: what f makes of the answer; a refused call leaves it as it was
abbrev pub lent_after : {A B : Type 0} → (A → List B) → Outcome A → List B → List B
lent_after f (value x) old = f x
lent_after f (refused k) old = old

-- what n elements written to it leave: it is written to only where it has as many
abbrev pub fitted : ℕ → (new old : List ℕ) → List ℕ
fitted n new old = pick (eqb (length old) n) new old
