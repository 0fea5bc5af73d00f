use mathlib.Core.Path.{ap, ◌∙◌}
use mathlib.Core.List.{[]}
use Prim.Native.Nat.{ℕ}
use native.Mathlib.Omega.{arith}
use lib.ListN.{length, length-set}
use Rattle.bench_replay.specs.Encoding.{answer_length, answer_fields}
use Rattle.bench_replay.specs.inner.Steps.{overwritten}
use Rattle.bench_replay.proofs.Writing.{length_over, fields_length, first_put, fields_put}
use Rattle.bench_replay.proofs.answers.write.Goals as goal

pub slice_bounds-put_number-end : goal.slice_bounds-put_number-end
slice_bounds-put_number-end c = simp length-set (omega arith)

pub slice_bounds-put_number-end-2 : goal.slice_bounds-put_number-end-2
slice_bounds-put_number-end-2 c =
    let e = first_put c.args.out.now c.args.at c.from.result c.args.answer.first 0 c.requires c.put_number.new.out [] (rw c.from-2.ensures at c.put_number.ensures) in
    omega (arith, e)

pub shape_of-out : goal.shape_of-out
shape_of-out c =
    let e = fields_put c.args.out.now c.args.at c.from.result c.args.answer.first c.args.answer.second c.requires c.put_number.new.out c.put_number-2.new.out (rw c.from-2.ensures at c.put_number.ensures) c.put_number-2.ensures in
    ap length e ∙ length_over c.args.out.now c.args.at _ answer_length (fields_length _ _ _) c.requires

pub returns : goal.returns
returns c =
    let a = c.args in
    fields_put a.out.now a.at c.from.result a.answer.first a.answer.second c.requires c.put_number.new.out c.put_number-2.new.out (rw c.from-2.ensures at c.put_number.ensures) c.put_number-2.ensures
    ∙ ap (λ (k : ℕ). overwritten a.out.now a.at (answer_fields k a.answer.first a.answer.second)) c.from.ensures
