-- Document 01's turn for each case of this crate's enum, and what the checks decide.
-- Assumes nothing.
use Rattle.std.specs.Prelude.{Result}
use Rattle.katan.specs.Checks.{Outcome, outcome_by}
use Rattle.katan.specs.declared.Refusal.{Refusal}
use Rattle.bench.specs.Checks.{Turn, counts, repeats}
use Rattle.bench_checks.specs.declared.Turn.{Turn as TurnOf}
use Rattle.bench_checks.specs.declared.Turn.TheVariants.{Counts, Repeats}

abbrev pub turn_view : TurnOf → Turn
turn_view Counts = counts
turn_view Repeats = repeats

abbrev pub decision_outcome : Result TurnOf Refusal → Outcome Turn
decision_outcome = outcome_by turn_view
