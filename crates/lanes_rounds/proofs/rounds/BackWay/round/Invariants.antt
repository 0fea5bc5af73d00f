use Prim.Native.Nat.{◌+◌}
use Rattle.lanes_rounds.proofs.Histories.{Left}
use Rattle.lanes_rounds.proofs.rounds.BackWay.round.Given as goal

abbrev pub invariant-loop-i : goal.invariant-loop-i
invariant-loop-i g l = Left g.W.Width.row l.u l.first l.initial.i (l.first + l.i) l.initial.a l.initial.b l.a l.b
