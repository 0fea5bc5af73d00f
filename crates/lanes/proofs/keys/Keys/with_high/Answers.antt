use Prim.Native.Nat.{◌^◌, ◌<◌}
use native.Mathlib.Omega.{arith}
use borrow.Author.Rules.{rules}
use lib.ListN.{get_or}
use Rattle.lanes.specs.inner.Words.{high_place}
use Rattle.lanes.proofs.keys.Keys.with_high.Goals as goal

pub overflow_mul-row : goal.overflow_mul-row
overflow_mul-row c = omega (arith, c.from.ensures, c.block_key.type_inv)

pub overflow_add-row : goal.overflow_add-row
overflow_add-row c =
    let l = c.loop-i in
    let h : l.i < c.args.self.now.count = search rules in
    let b : get_or c.args.blocks.now l.i 0 < 2 ^ high_place = c.requires.1 l.i h in
    omega (arith, c.from.ensures, c.block_key.type_inv, b)
