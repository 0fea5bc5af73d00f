use Rattle.bench.specs.Steps.{slots_as}
use Rattle.bench_stepping.proofs.counted.load.Goals as goal

pub returns : goal.returns
unfolding slots_as
returns c = simp (c.from.ensures, c.loaded_by.ensures)
