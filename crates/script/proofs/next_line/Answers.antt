use mathlib.Core.Path.{◌≡◌, sym, ◌∙◌}
use Rattle.script.specs.inner.Kept.{line_end}
use Rattle.script.proofs.Begun.{end_position}
use Rattle.script.proofs.Turns.{step_none, step_full, step_line}
use Rattle.script.proofs.next_line.Goals as goal

pub returns-then-end-piece : goal.returns-then-end-piece
returns-then-end-piece c =
    let a = c.args in
    let e : c.line_end-end.result ≡ line_end a.piece.now = c.line_end-end.ensures ∙ sym (end_position a.piece.now) in
    step_none a.space a.script a.piece.now c.line_end-end.result c.keep-pending.result e c.keep-pending.ensures c.if-end-piece.true

pub returns-then-space-result : goal.returns-then-space-result
returns-then-space-result c =
    let a = c.args in
    let e : c.line_end-end.result ≡ line_end a.piece.now = c.line_end-end.ensures ∙ sym (end_position a.piece.now) in
    step_full a.space a.script a.piece.now c.line_end-end.result c.keep-pending.result e c.keep-pending.ensures c.ended-result.result c.ended-result.ensures c.if-end-piece.false c.if-space-result.true

pub returns : goal.returns
returns c =
    let a = c.args in
    let e : c.line_end-end.result ≡ line_end a.piece.now = c.line_end-end.ensures ∙ sym (end_position a.piece.now) in
    step_line a.space a.script a.piece.now c.line_end-end.result c.keep-pending.result e c.keep-pending.ensures c.ended-result.result c.ended-result.ensures c.if-end-piece.false c.if-space-result.false
