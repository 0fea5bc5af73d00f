use mathlib.Core.Path.{◌≡◌}
use lib.ListN.{length}
use Rattle.lanes_transpose.specs.inner.Stage.{Passed}
use Rattle.lanes_transpose.proofs.pass.Given as goal

abbrev pub invariant-loop-i : goal.invariant-loop-i
invariant-loop-i l = (length l.next ≡ 64) × Passed l.i l.first.shift l.first.mask l.second.shift l.second.mask l.rows l.next
