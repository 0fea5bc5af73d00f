use Prim.Native.Nat.{◌<◌}
use native.Mathlib.Omega.{arith}
use Rattle.katan_clocks.proofs.Shifts.{sum_fits, entered}
use Rattle.katan_clocks.proofs.Clocks.enter.Goals as goal

pub overflow_add-result : goal.overflow_add-result
overflow_add-result c =
    let a = c.args in
    let few : a.self.count < 64 = omega arith in
    record { fits = sum_fits a.l a.self.count a.b few }

pub returns : goal.returns
returns c =
    let a = c.args in
    let few : a.self.count < 64 = omega arith in
    entered a.l a.self.count a.b few a.n c.requires
