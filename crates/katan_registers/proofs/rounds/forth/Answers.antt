use Prim.Native.Nat.{◌+◌, ◌*◌, ◌≤◌}
use native.Mathlib.Omega.{arith}
use Rattle.katan.specs.Counter.{rounds}
use Rattle.katan_registers.proofs.Laws.{stride_more, within}
use Rattle.katan_registers.proofs.rounds.forth.Goals as goal

pub loop-i-preserved : goal.loop-i-preserved
loop-i-preserved g c =
    let a = c.args in
    let l = c.loop-i in
    let here : a.r + l.i * a.c + a.c ≤ rounds = omega (arith, within l.i a.n a.c c.loop-i-test.true, c.requires.within) in
    λ v key moves.
    stride_more v key a.r a.c a.h l.t c.step-t.result l.i (l.invariant v key moves) (moves (a.r + l.i * a.c) l.t c.step-t.result here c.step-t.ensures)
