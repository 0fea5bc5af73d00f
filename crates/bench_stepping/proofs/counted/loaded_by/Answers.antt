use mathlib.Core.Path.{refl}
use Rattle.bench.specs.Steps.{loaded_by}
use Rattle.bench_stepping.proofs.counted.loaded_by.Goals as goal

pub returns : goal.returns
unfolding loaded_by
returns c = refl
