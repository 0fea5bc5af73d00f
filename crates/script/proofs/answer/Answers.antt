use borrow.Author.Rules.{rules}
use Prim.Native.Nat.{◌^◌, ◌<◌}
use mathlib.Core.Path.{◌≡◌}
use native.Mathlib.Omega.{arith}
use lib.ListN.{length}
use Rattle.script_answers.specs.Printed.{room}
use Rattle.script.proofs.Turns.{going_first, going_end, going_stop, going_on, step_within, step_some, step_room, step_space}
use Rattle.script.proofs.answer.Goals as goal

pub loop-used-init : goal.loop-used-init
loop-used-init c =
    let a = c.args in
    going_first a.piece.now a.out.now a.script

pub overflow_add-used : goal.overflow_add-used
overflow_add-used c =
    let t = c.next_line-step in
    let l = c.loop-used in
    let a = c.args in
    let fits : length a.piece.now < 2 ^ 64 = c.well_formed.1.0.0 in
    omega (arith, step_within a.piece.now a.out.now a.script l.out l.now l.used l.count l.invariant t.result t.ensures)

pub put-requires : goal.put-requires
put-requires c =
    let t = c.next_line-step in
    let l = c.loop-used in
    let a = c.args in
    let p = c.in-Some.printed in (
      step_room a.piece.now a.out.now a.script l.out l.now l.used l.count l.invariant t.result t.ensures p c.in-Some.is,
      omega (arith, step_space a.piece.now a.out.now a.script l.out l.now l.used l.count l.invariant t.result t.ensures p c.in-Some.is),
    )

pub overflow_add-count : goal.overflow_add-count
overflow_add-count c =
    let t = c.next_line-step in
    let l = c.loop-used in
    let a = c.args in
    let fits : length a.out.now < 2 ^ 64 = c.well_formed.1.1.0.0 in
    omega (arith, step_space a.piece.now a.out.now a.script l.out l.now l.used l.count l.invariant t.result t.ensures c.in-Some.printed c.in-Some.is)

pub loop-used-smaller : goal.loop-used-smaller
loop-used-smaller c =
    let t = c.next_line-step in
    let l = c.loop-used in
    let a = c.args in
    omega (
      arith,
      step_within a.piece.now a.out.now a.script l.out l.now l.used l.count l.invariant t.result t.ensures,
      step_some a.piece.now a.out.now a.script l.out l.now l.used l.count l.invariant t.result t.ensures c.in-Some.printed c.in-Some.is,
    )

pub loop-used-preserved : goal.loop-used-preserved
loop-used-preserved c =
    let t = c.next_line-step in
    let l = c.loop-used in
    let a = c.args in
    let room_of : length c.in-Some.printed.bytes ≡ room = search rules in
    going_on a.piece.now a.out.now a.script l.out l.now l.used l.count l.invariant t.result t.ensures c.in-Some.printed c.in-Some.is room_of _ c.put.ensures

pub returns-after-loop-used : goal.returns-after-loop-used
returns-after-loop-used c =
    let l = c.loop-used in
    let a = c.args in
    let p = going_end a.piece.now a.out.now a.script l.out l.now l.used l.count l.invariant c.loop-used-test.false in
    (p.result, p.output)

pub returns-in_default : goal.returns-in_default
returns-in_default c =
    let t = c.next_line-step in
    let l = c.loop-used in
    let a = c.args in
    let p = going_stop a.piece.now a.out.now a.script l.out l.now l.used l.count l.invariant t.result t.ensures c.in_default.is in
    (p.result, p.output)
