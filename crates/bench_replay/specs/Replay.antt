-- What a replay answers, what its output holds afterwards, and the calls that it has run.
-- Assumes nothing.
use Rattle.std.specs.Prelude.{ℕ, not, List, [], ◌∷◌, length}
use Rattle.katan.specs.Checks.{Outcome, value, refused, Check, checked, variant_check}
use Rattle.katan.specs.Lent.{lent_after}
use Rattle.bench.specs.Calls.{Call}
use Rattle.bench.specs.Claim.{model_answers}
use Rattle.bench_replay.specs.Encoding.{calls_in, answers_bytes, fits}

-- 2: the bytes are not whole calls, or the output has not 13 for each
abbrev pub list_check : (bytes out : List ℕ) → Check
list_check bytes out = record { number = 2; fault = not (fits bytes (length out)) }

-- a refused list runs no call, and leaves the output as it was; otherwise the output holds the reference model's answers
abbrev pub ran : Outcome (List Call) → List Call
ran (value calls) = calls
ran (refused k) = []

module _ (v : ℕ) (bytes out : List ℕ) where
  -- 1, then 2
  abbrev pub replay_checks : List Check
  replay_checks = variant_check v ∷ list_check bytes out ∷ []

  abbrev pub accepted : Outcome (List Call)
  accepted = checked replay_checks (value (calls_in bytes))

  abbrev pub replay_answer : Outcome (Unit {0})
  replay_answer = checked replay_checks (value tt)

  abbrev pub replay_output : List ℕ
  replay_output = lent_after (λ calls. answers_bytes (model_answers v calls)) accepted out

  abbrev pub calls_run : List Call
  calls_run = ran accepted
