use borrow.Author.Rules.{rules}
use Prim.Native.Nat.{◌+◌, ◌≤◌}
use mathlib.Core.Path.{sym, ◌∙◌}
use native.Mathlib.Omega.{arith}
use Rattle.std.proofs.lemmas.List.{length-take}
use Rattle.script_form.proofs.Runs.{loop_end, loop_stop, loop_go, digit_below, value_below, value_fits}
use Rattle.script_form.proofs.digits.run_in.Goals as goal

pub overflow_mul-value : goal.overflow_mul-value
overflow_mul-value c =
    let few : c.loop-b.count + 1 ≤ 16 = omega (arith, length-take c.min.result c.args.text.now) in
    record { fits = omega (arith, value_fits _ _ few (value_below _ _ _ _ (search rules) (digit_below _ _ _ (sym c.in-Some.ensures)) c.loop-b.invariant.1)) }

pub overflow_add-value : goal.overflow_add-value
overflow_add-value c =
    let few : c.loop-b.count + 1 ≤ 16 = omega (arith, length-take c.min.result c.args.text.now) in
    record { fits = value_fits _ (c.loop-b.count + 1) few (value_below _ _ _ _ (search rules) (digit_below _ _ _ (sym c.in-Some.ensures)) c.loop-b.invariant.1) }

pub loop-b-preserved : goal.loop-b-preserved
loop-b-preserved c =
    let l = c.loop-b in
    let a = c.args in (
      omega arith,
      value_below _ _ _ _ (search rules) (digit_below _ _ _ (sym c.in-Some.ensures)) l.invariant.1,
      l.invariant.2 ∙ loop_go a.text.now a.base a.most l.value l.count c.min.result c.min.ensures (rw l.invariant.0 c.loop-b-test.true) _ (rw l.invariant.0 (sym c.in-Some.ensures)),
    )

pub returns-after-loop-b : goal.returns-after-loop-b
returns-after-loop-b c =
    let l = c.loop-b in
    let a = c.args in
    sym (l.invariant.2 ∙ loop_end a.text.now a.base a.most l.value l.count c.min.result c.min.ensures (omega arith))

pub returns-in_default : goal.returns-in_default
returns-in_default c =
    let l = c.loop-b in
    let a = c.args in
    sym (l.invariant.2 ∙ loop_stop a.text.now a.base a.most l.value l.count c.min.result c.min.ensures (rw l.invariant.0 c.loop-b-test.true) (rw l.invariant.0 (sym c.in_default.ensures)))
