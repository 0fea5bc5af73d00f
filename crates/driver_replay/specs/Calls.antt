-- What the call of a driver that runs a whole list of calls answers, and what it leaves in the memory lent to it.
-- Assumes nothing.
use Rattle.std.specs.Prelude.{ℕ, List, [], ◌∷◌}
use Rattle.katan.specs.Checks.{Outcome, checked, size_check, variant_check}
use Rattle.katan.specs.Lent.{lent_after}
use Rattle.bench.specs.Calls.{Call}
use Rattle.bench.specs.Claim.{bench_after, model_answers}
use Rattle.bench_replay.specs.Encoding.{answers_bytes}
use Rattle.bench_replay.specs.Replay.{accepted}
use Rattle.driver_layout.specs.Layout.{bench_length, bench_bytes}

-- on a fresh bench and link: the answers are the reference model's
module _ (v : ℕ) (calls bench answers : List ℕ) where
  unfoldable pub replay_call : Outcome (List Call)
  replay_call = checked (variant_check v ∷ size_check bench_length bench ∷ []) (accepted v calls answers)

  abbrev pub replayed_bench : List ℕ
  replayed_bench = lent_after (λ cs. bench_bytes (bench_after v cs).bench bench) replay_call bench

  abbrev pub replayed_answers : List ℕ
  replayed_answers = lent_after (λ cs. answers_bytes (model_answers v cs)) replay_call answers
