use mathlib.Core.Path.{◌≡◌, subst}
use Prim.Native.Nat.{ℕ, ◌+◌, ◌-◌, ◌*◌, ◌<◌, ◌≤◌}
use native.Mathlib.Nat.{zero-mul}
use native.Mathlib.Omega.{arith}
use Rattle.katan.specs.Counter.{rounds}
use Rattle.katan_registers.specs.inner.Moves.{MovesBack}
use Rattle.katan_registers.proofs.Laws.{stride_less, within}
use Rattle.katan_registers.proofs.rounds.back.Goals as goal

pub loop-i-preserved : goal.loop-i-preserved
loop-i-preserved g c =
    let a = c.args in
    let l = c.loop-i in
    let i = l.i - 1 in
    let one : l.i ≡ i + 1 = omega (arith, c.loop-i-test.true) in
    let fewer : i < a.n = omega (arith, c.loop-i-test.true, l.auto.i) in
    let here : a.r + i * a.c + a.c ≤ rounds = omega (arith, within i a.n a.c fewer, c.requires.within) in
    λ v key moves.
    stride_less v key a.r a.c a.h l.t c.step-t.result i a.n fewer
    (subst (λ (x : ℕ). MovesBack v key (a.r + x * a.c) ((a.n - x) * a.c) a.h l.t) one (l.invariant v key moves)) (moves (a.r + i * a.c) l.t c.step-t.result here c.step-t.ensures)

pub returns : goal.returns
returns g c =
    let a = c.args in
    let l = c.loop-i in
    let none : l.i ≡ 0 = omega (arith, c.loop-i-test.false) in
    let place : a.r + 0 * a.c ≡ a.r = omega (arith, zero-mul a.c) in
    let all : a.n - 0 ≡ a.n = omega arith in
    λ v key moves.
    subst (λ (m : ℕ). MovesBack v key a.r (m * a.c) a.h l.t) all
    (subst (λ (p : ℕ). MovesBack v key p ((a.n - 0) * a.c) a.h l.t) place
    (subst (λ (x : ℕ). MovesBack v key (a.r + x * a.c) ((a.n - x) * a.c) a.h l.t) none (l.invariant v key moves)))
