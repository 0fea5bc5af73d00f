use Prim.Native.Nat.{ℕ, ◌+◌, ◌-◌, ◌≤◌}
use mathlib.Core.Path.{◌≡◌, ap, refl, ◌∙◌}
use native.Mathlib.Omega.{arith}
use lib.ListN.{length, take, drop, length-drop}
use borrow.Author.Rules.{rules}
use Rattle.std.proofs.lemmas.List.{length-take}
use Rattle.script_form.specs.Digits.{fixed}
use Rattle.script_form.specs.Form.{piece_of}
use Rattle.script_answers.proofs.Writing.{letter_put, digits_size, digits_put}
use Rattle.script_answers.proofs.form.put_piece.Goals as goal

pub bounds-out-at : goal.bounds-out-at
bounds-out-at c = omega (arith, ap length (c.in-None.ensures).text, c.requires)

pub overflow_add-end : goal.overflow_add-end
overflow_add-end c =
    let a = c.args in
    omega (arith, digits_size (piece_of a.digits a.p) a.p a.v a.at a.out.now c.in-Some.shape c.in-Some.ensures, c.requires)

pub slice_bounds-put_digits-end : goal.slice_bounds-put_digits-end
slice_bounds-put_digits-end c =
    let a = c.args in
    let h : a.at + c.in-Some.shape.count ≤ length a.out.now = omega (arith, digits_size (piece_of a.digits a.p) a.p a.v a.at a.out.now c.in-Some.shape c.in-Some.ensures, c.requires) in
    search rules

pub returns-in-None : goal.returns-in-None
returns-in-None c =
    let a = c.args in
    let g = letter_put (piece_of a.digits a.p) a.p a.v a.at a.out.now c.in-None.ensures (omega (arith, ap length (c.in-None.ensures).text, c.requires)) in
    (g.next, g.takes, g.written)

pub returns-in-Some : goal.returns-in-Some
returns-in-Some c =
    let a = c.args in
    let x = c.in-Some.shape in
    let room : a.at + x.count ≤ length a.out.now = omega (arith, digits_size (piece_of a.digits a.p) a.p a.v a.at a.out.now x c.in-Some.ensures, c.requires) in
    let k : a.at + x.count - a.at ≡ x.count = omega arith in
    let n : length (take (a.at + x.count - a.at) (drop a.at a.out.now)) ≡ x.count = omega (arith, length-take (a.at + x.count - a.at) (drop a.at a.out.now), length-drop a.at a.out.now) in
    let g = digits_put (piece_of a.digits a.p) a.p a.v a.at a.out.now x c.in-Some.ensures (a.at + x.count) (a.at + x.count - a.at) c.put_digits.new.out refl k room
    (c.put_digits.ensures ∙ ap (λ (i : ℕ). fixed x.base i a.v) n) in
    (g.next, g.takes, g.written)
