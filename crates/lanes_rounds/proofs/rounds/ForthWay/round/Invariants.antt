use Rattle.lanes_rounds.proofs.Histories.{Begun}
use Rattle.lanes_rounds.proofs.rounds.ForthWay.round.Given as goal

abbrev pub invariant-loop-i : goal.invariant-loop-i
invariant-loop-i g l = Begun g.W.Width.row l.u l.first l.i l.initial.a l.initial.b l.a l.b
