use mathlib.Core.Path.{sym, ap₂, ◌∙◌}
use Rattle.katan.proofs.Variants.{row_found}
use Rattle.katan_sheet.specs.Sheet.{joined}
use Rattle.katan_sheet.proofs.Refusals.{key_is, width_is, last_check}
use Rattle.katan_sheet.proofs.join.Goals as goal

pub returns-then-contradictory : goal.returns-then-contradictory
returns-then-contradictory c =
    let s = c.args.sheet in
    let o = c.args.other in
    let v = c.args.variant in
    let is = row_found v c.row_of.result _ c.row_of.ensures c.in_ok-row.was in
    let ten = sym c.bad_length.ensures ∙ c.if-bad_length.false in
    let ten' = sym c.bad_length-else-bad_length.ensures ∙ c.if-bad_length-2.false in
    let fits = width_is v _ is.is_row s.block _ c.too_wide.ensures ∙ c.if-too_wide.false in
    let fits' = width_is v _ is.is_row o.block _ c.too_wide-else-too_wide.ensures ∙ c.if-too_wide-2.false in
    let key = c.bitor-key.ensures ∙ ap₂ joined (key_is s.key.ones.now s.key.zeros.now _ c.key_of.ensures ten) (key_is o.key.ones.now o.key.zeros.now _ c.key_of-2.ensures ten') in
    sym (last_check v s.block s.key.ones.now s.key.zeros.now o.block o.key.ones.now o.key.zeros.now is.no_fault ten ten' fits fits' _ _ _ c.bitor-block.ensures key (sym c.if-contradictory.true ∙ c.contradictory.ensures))

pub returns : goal.returns
returns c =
    let s = c.args.sheet in
    let o = c.args.other in
    let v = c.args.variant in
    let is = row_found v c.row_of.result _ c.row_of.ensures c.in_ok-row.was in
    let ten = sym c.bad_length.ensures ∙ c.if-bad_length.false in
    let ten' = sym c.bad_length-else-bad_length.ensures ∙ c.if-bad_length-2.false in
    let fits = width_is v _ is.is_row s.block _ c.too_wide.ensures ∙ c.if-too_wide.false in
    let fits' = width_is v _ is.is_row o.block _ c.too_wide-else-too_wide.ensures ∙ c.if-too_wide-2.false in
    let key = c.bitor-key.ensures ∙ ap₂ joined (key_is s.key.ones.now s.key.zeros.now _ c.key_of.ensures ten) (key_is o.key.ones.now o.key.zeros.now _ c.key_of-2.ensures ten') in
    sym (last_check v s.block s.key.ones.now s.key.zeros.now o.block o.key.ones.now o.key.zeros.now is.no_fault ten ten' fits fits' _ _ _ c.bitor-block.ensures key (sym c.if-contradictory.false ∙ c.contradictory.ensures))
