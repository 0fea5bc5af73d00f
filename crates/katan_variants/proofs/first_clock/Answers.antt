use Prim.Native.Nat.{◌<◌, ◌^◌}
use native.Mathlib.Nat.{lt_of_le_of_lt, lt_trans, le_of_lt, mul-le-mul_left}
use native.Mathlib.Omega.{arith}
use lib.Pow.{shl_lt, pow-lt}
use borrow.Author.Rules.{rules}
use Rattle.katan_variants.proofs.first_clock.Goals as goal

pub overflow_mul-result : goal.overflow_mul-result
overflow_mul-result c =
    let a = c.args in
    let few : a.row.clocks < 2 ^ 32 = search rules in
    let at : c.from-rounds.result < 2 ^ 8 = search rules in
    record { fits = lt_trans (lt_of_le_of_lt (mul-le-mul_left a.row.clocks (le_of_lt at)) (shl_lt 32 8 few)) (pow-lt {i = 40} {j = 64} (omega arith)) }
