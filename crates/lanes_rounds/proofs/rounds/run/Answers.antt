use mathlib.Core.Path.{◌≡◌, sym, subst}
use Prim.Native.Nat.{ℕ, ◌+◌, ◌*◌, ◌/◌}
use native.Mathlib.Nat.{mul-zero, mul-add, add-zero}
use native.Mathlib.Omega.{arith}
use Rattle.katan.specs.Counter.{rounds}
use Rattle.lanes_rounds.proofs.rounds.run.Goals as goal

pub loop-turn-init : goal.loop-turn-init
loop-turn-init g c =
    let a = c.args in
    let w = g.W.Width.row in
    (c.requires.0, subst (λ (n : ℕ). g.D.Way.made w a.irs.now a.keys.now n a.a.now a.b.now a.a.now a.b.now) (sym (mul-zero g.row.TURN)) (g.met.D.Way.none w a.irs.now a.keys.now a.a.now a.b.now c.requires.0))

pub loop-i-init : goal.loop-i-init
loop-i-init g c = rw add-zero c.loop-turn.invariant

pub loop-i-preserved : goal.loop-i-preserved
loop-i-preserved g c =
    let a = c.args in
    let r = c.round in
    let t = g.row.TURN * c.loop-turn.turn in
    let e : t + c.loop-i.i + 1 ≡ t + (c.loop-i.i + 1) = omega arith in
    (r.ensures.room, subst (λ (n : ℕ). g.D.Way.made g.W.Width.row a.irs.now a.keys.now n a.a.now a.b.now r.new.a r.new.b) e (r.ensures.more a.a.now a.b.now c.loop-i.invariant.1))

pub loop-turn-preserved : goal.loop-turn-preserved
loop-turn-preserved g c =
    let a = c.args in
    let l = c.loop-i in
    let e : g.row.TURN * c.loop-turn.turn + l.i ≡ g.row.TURN * (c.loop-turn.turn + 1) = omega (arith, mul-add g.row.TURN c.loop-turn.turn 1) in
    (l.invariant.0, subst (λ (n : ℕ). g.D.Way.made g.W.Width.row a.irs.now a.keys.now n a.a.now a.b.now l.a l.b) e l.invariant.1)

pub returns : goal.returns
returns g c =
    let a = c.args in
    let l = c.loop-turn in
    let q : l.turn ≡ rounds / g.row.TURN = omega arith in
    let e : g.row.TURN * l.turn ≡ rounds = rw q c.requires.2 in
    subst (λ (n : ℕ). g.D.Way.made g.W.Width.row a.irs.now a.keys.now n a.a.now a.b.now l.a l.b) e l.invariant.1
