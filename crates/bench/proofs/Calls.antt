-- Calls after calls: what a list leaves, and answers.
-- Assumes nothing.
use mathlib.Core.Path.{◌≡◌, refl, ap}
use mathlib.Core.List.{List, [], ◌∷◌, ◌++◌}
use Rattle.bench.specs.Calls.{Call, Answer, state_after, answers_to}

module _ {S : Type 0} (transition : S → Call → S × Answer) where
  pub state_more : (x : S) (cs ds : List Call) → state_after transition x (cs ++ ds) ≡ state_after transition (state_after transition x cs) ds
  unfolding state_after
  state_more x [] ds = refl
  state_more x (c ∷ cs) ds = state_more (transition x c).0 cs ds

  pub answers_more : (x : S) (cs ds : List Call)
      → answers_to transition x (cs ++ ds) ≡ answers_to transition x cs ++ answers_to transition (state_after transition x cs) ds
  unfolding state_after answers_to
  answers_more x [] ds = refl
  answers_more x (c ∷ cs) ds = ap (λ (l : List Answer). (transition x c).1 ∷ l) (answers_more (transition x c).0 cs ds)
