use Rattle.std.proofs.Common.{rules, tests, ◌∙◌}
use Rattle.std.proofs.lemmas.Iterator.{YieldsList-from_slice}
use Rattle.std.proofs.lemmas.Iterator.Search.{any_from_yields_List}
use Rattle.bench.specs.Checks.{lane_fault}
use Rattle.bench.specs.Bench.{lane_view}
use Rattle.bench.proofs.Loops.{any_fault}
use Rattle.bench_checks.proofs.any_lane_fault.Goals as goal

pub returns : goal.returns
returns c = λ v e.
    any_from_yields_List (λ l. lane_fault v (lane_view l)) _ _ _ c.any.ensures.ran (YieldsList-from_slice c.args.bench.slots cc) (λ x b q k. search (rules, tests))
    ∙ any_fault v c.args.bench.slots
