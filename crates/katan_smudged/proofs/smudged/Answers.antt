use mathlib.Core.Path.{sym, ap, ◌∙◌}
use Prim.Native.Nat.{ℕ}
use Rattle.katan.specs.Checks.{value}
use Rattle.katan.proofs.Variants.{row_found}
use Rattle.katan_sheet.specs.Sheet.{smudged_at}
use Rattle.katan_sheet.specs.Answers.{contradiction_check}
use Rattle.katan_sheet.specs.declared.Known.{Known}
use Rattle.katan_sheet.proofs.Refusals.{key_is, width_is}
use Rattle.katan_smudged.proofs.Refusals.{clash, ran}
use Rattle.katan_smudged.proofs.smudged.Goals as goal

pub returns-then-contradictory : goal.returns-then-contradictory
returns-then-contradictory c =
    let a = c.args in
    let v = a.variant in
    let is = row_found v c.row_of.result _ c.row_of.ensures c.in_ok-row.was in
    let two = sym c.bad_length.ensures ∙ c.if-bad_length.false in
    let seven = width_is v _ is.is_row a.sheet.block _ c.too_wide.ensures ∙ c.if-too_wide.false in
    let key = key_is a.sheet.key.ones.now a.sheet.key.zeros.now _ c.key_of-key.ensures two in
    let sixteen = ap (λ (k : Known ℕ). (contradiction_check k a.sheet.block).fault) (sym key) ∙ sym c.contradictory.ensures in
    clash v a.sheet.block a.sheet.key.ones.now a.sheet.key.zeros.now a.to.0 is.no_fault two c.if-to-gt-ROUNDS.false seven (sixteen ∙ c.if-contradictory.true)

pub returns : goal.returns
returns c =
    let a = c.args in
    let v = a.variant in
    let is = row_found v c.row_of.result _ c.row_of.ensures c.in_ok-row.was in
    let two = sym c.bad_length.ensures ∙ c.if-bad_length.false in
    let seven = width_is v _ is.is_row a.sheet.block _ c.too_wide.ensures ∙ c.if-too_wide.false in
    let key = key_is a.sheet.key.ones.now a.sheet.key.zeros.now _ c.key_of-key.ensures two in
    let sixteen = ap (λ (k : Known ℕ). (contradiction_check k a.sheet.block).fault) (sym key) ∙ sym c.contradictory.ensures in
    ap value (c.smudged_to.ensures ∙ ap (λ (k : Known ℕ). smudged_at v k a.sheet.block a.to.0) key)
    ∙ ran v a.sheet.block a.sheet.key.ones.now a.sheet.key.zeros.now a.to.0 is.no_fault two c.if-to-gt-ROUNDS.false seven (sixteen ∙ c.if-contradictory.false)
