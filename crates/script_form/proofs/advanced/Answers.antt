use Prim.Native.Nat.{◌-◌, ◌≤◌}
use mathlib.Core.Path.{sym, ◌∙◌}
use lib.ListN.{length}
use borrow.Author.Rules.{rules}
use Rattle.script_form.proofs.Scans.{inside}
use Rattle.script_form.proofs.advanced.Goals as goal

pub overflow_add-next : goal.overflow_add-next
overflow_add-next c =
    let a = c.args in
    let h : 1 ≤ length a.line.now - a.found.offset = inside a.digits a.p a.found.offset a.line.now _ _ _ (sym c.in_ok-ok_or.ensures.ok_part ∙ c.piece_in.ensures) c.rest_of.ensures c.in-Letter.is in
    search rules

pub overflow_add-next-in-Field : goal.overflow_add-next-in-Field
overflow_add-next-in-Field c =
    let a = c.args in
    let h : c.in-Field.length ≤ length a.line.now - a.found.offset = inside a.digits a.p a.found.offset a.line.now _ _ _ (sym c.in_ok-ok_or.ensures.ok_part ∙ c.piece_in.ensures) c.rest_of.ensures c.in-Field.is in
    search rules

pub overflow_add-next-in-Words : goal.overflow_add-next-in-Words
overflow_add-next-in-Words c =
    let a = c.args in
    let h : c.in-Words.length ≤ length a.line.now - a.found.offset = inside a.digits a.p a.found.offset a.line.now _ _ _ (sym c.in_ok-ok_or.ensures.ok_part ∙ c.piece_in.ensures) c.rest_of.ensures c.in-Words.is in
    search rules
