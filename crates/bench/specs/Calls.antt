-- The calls of a list, what they answer, and how a list is run (document 01, "Demand 3 speaks of lists").
-- Assumes nothing.
use Rattle.std.specs.Prelude.{ℕ, List, [], ◌∷◌}
use Rattle.katan.specs.Checks.{Outcome}
use Rattle.bench.specs.declared.Reading.{Reading}

-- a record of any bytes and length arrives, or a lane of any number is read
pub data Call : Type 0 where
  arrival : (bytes : List ℕ) → Call
  reading : (lane : ℕ) → Call

-- 'done' and 'again' with number and total; a read with position and registers
pub data Response : Type 0 where
  done : (number total : ℕ) → Response
  again : (number total : ℕ) → Response
  at : Reading → Response

-- or a refusal's number
abbrev pub Answer : Type 0
Answer = Outcome Response

-- the calls of a list, each finding what the last one left
module _ {S C A : Type 0} (transition : S → C → S × A) where
  unfoldable pub state_after : S → List C → S
  state_after x [] = x
  state_after x (c ∷ cs) = state_after (transition x c).0 cs

  unfoldable pub answers_to : S → List C → List A
  answers_to x [] = []
  answers_to x (c ∷ cs) = (transition x c).1 ∷ answers_to (transition x c).0 cs
