use Prim.Native.Nat.{◌+◌}
use mathlib.Core.Path.{◌≡◌}
use native.Mathlib.Omega.{arith}
use lib.ListN.{length, get_or}
use borrow.Author.Rules.{rules}
use Rattle.script_form.specs.Form.{piece_of, fill}
use Rattle.script_answers.specs.inner.Pieces.{put_at}
use Rattle.script_answers.proofs.Writing.{text, taken_few, piece_fits, turn, form_end}
use Rattle.script_answers.proofs.form.write_form.Goals as goal

pub put_piece-put-requires : goal.put_piece-put-requires
put_piece-put-requires c =
    let a = c.args in
    let l = c.loop-p in
    let v : c.unwrap_or-v.result ≡ get_or a.values.now l.n 0 = search rules in
    rw v (piece_fits a.digits a.form.now a.values.now l.p-index l.n l.out a.out.now (fill a.digits a.form.now a.values.now) l.at c.loop-p-test.true l.invariant.1 l.invariant.2 (omega (arith, l.auto.out)))

pub overflow_add-n : goal.overflow_add-n
overflow_add-n c =
    let a = c.args in
    omega (arith, c.put_piece-put.ensures.1, taken_few (piece_of a.digits (get_or a.form.now c.loop-p.p-index 0)))

pub loop-p-preserved : goal.loop-p-preserved
loop-p-preserved c =
    let a = c.args in
    let l = c.loop-p in
    let put = c.put_piece-put in
    let same : c.unwrap_or-v.result ≡ get_or a.values.now l.n 0 = search rules in
    let t = text a.digits a.form.now a.values.now l.p-index l.n in
    let whole = fill a.digits a.form.now a.values.now in
    let at : put.result.at ≡ l.at + length t = rw same at put.ensures.0 in
    let out : put.new.out ≡ put_at l.at t l.out = rw same at put.ensures.2 in
    let in-form = c.loop-p-test.true in
    let next = turn a.digits a.form.now a.values.now l.p-index l.n l.out a.out.now whole l.at in-form l.invariant.1 l.invariant.2 (omega (arith, l.auto.out)) put.new.out out in
    let fits = piece_fits a.digits a.form.now a.values.now l.p-index l.n l.out a.out.now whole l.at in-form l.invariant.1 l.invariant.2 (omega (arith, l.auto.out)) in (
      omega (arith, put.ensures.1, taken_few (piece_of a.digits (get_or a.form.now l.p-index 0))),
      omega (arith, next.same_length),
      rw (at, put.ensures.1) next.before,
      rw at (next.after l.invariant.3),
    )

pub returns : goal.returns
returns c =
    let a = c.args in
    let l = c.loop-p in
    form_end a.digits a.form.now a.values.now l.p-index l.n l.out a.out.now (fill a.digits a.form.now a.values.now) l.at c.loop-p-test.false l.invariant.1 l.invariant.2 l.invariant.3
