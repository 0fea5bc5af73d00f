use Prim.Native.Nat.{◌+◌, ◌*◌}
use Rattle.lanes_rounds.specs.inner.Buffers.{Room}
use Rattle.lanes_rounds.proofs.rounds.run.Given as goal

abbrev pub invariant-loop-turn : goal.invariant-loop-turn
invariant-loop-turn g l =
    Room g.W.Width.row l.a l.b × g.D.Way.made g.W.Width.row l.irs l.keys (g.row.TURN * l.turn) l.initial.a l.initial.b l.a l.b

abbrev pub invariant-loop-i : goal.invariant-loop-i
invariant-loop-i g l =
    Room g.W.Width.row l.a l.b × g.D.Way.made g.W.Width.row l.irs l.keys (g.row.TURN * l.turn + l.i) l.fn.a l.fn.b l.a l.b
