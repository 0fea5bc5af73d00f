use mathlib.Core.Path.{◌≡◌, sym, ap, ◌∙◌}
use native.Mathlib.Nat.{lt_of_lt_of_le, mod-lt, sub_self}
use native.Mathlib.Omega.{arith}
use Rattle.script_form.proofs.Lengths.{div_none}
use Rattle.script_answers.proofs.Writing.{none_written, left_next, written_next, written, all_written}
use Rattle.script_answers.proofs.form.put_digits.Goals as goal

pub loop-i-init : goal.loop-i-init
loop-i-init c =
    let a = c.args in
    (rw (sub_self) (sym (div_none a.base a.value)), none_written a.out.now a.base a.value)

pub digit_of-requires : goal.digit_of-requires
digit_of-requires c = lt_of_lt_of_le (mod-lt c.loop-i.left c.requires.0) c.requires.1

pub loop-i-preserved : goal.loop-i-preserved
loop-i-preserved c =
    let a = c.args in
    let l = c.loop-i in (
      left_next a.out.now a.base a.value l.i l.left c.loop-i-test.true l.auto.i l.invariant.0,
      rw c.digit_of.ensures (written_next a.out.now a.base a.value l.i l.left c.loop-i-test.true l.auto.i l.invariant.0 l.out l.invariant.1),
    )

pub returns : goal.returns
returns c =
    let a = c.args in
    let l = c.loop-i in
    let z : l.i ≡ 0 = omega arith in
    l.invariant.1 ∙ ap (written a.out.now a.base a.value) z ∙ all_written a.out.now a.base a.value
