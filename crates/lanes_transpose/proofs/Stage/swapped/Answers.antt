use mathlib.Core.Path.{refl}
use Rattle.lanes_transpose.specs.inner.Stage.{difference, swapped_low, swapped_high}
use Rattle.lanes_transpose.proofs.Stage.swapped.Goals as goal

pub returns-clause-low_row : goal.returns-clause-low_row
unfolding difference swapped_low
returns-clause-low_row c = refl

pub returns-clause-high_row : goal.returns-clause-high_row
unfolding difference swapped_high
returns-clause-high_row c = refl
