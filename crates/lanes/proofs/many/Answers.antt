use mathlib.Core.Path.{sym, ◌∙◌}
use Prim.Native.Nat.{◌≤◌}
use native.Mathlib.Omega.{arith}
use lib.ListN.{length}
use Rattle.katan.proofs.Variants.{row_found}
use Rattle.lanes.proofs.Blocks.{first_results}
use Rattle.lanes.proofs.Faults.{blocks_fault, all_below, no_fault, refuses_7, done}
use Rattle.lanes.proofs.many.Goals as goal

pub returns-then-any_wide-clause-result_value : goal.returns-then-any_wide-clause-result_value
returns-then-any_wide-clause-result_value c =
    let a = c.args in
    let is = row_found a.variant c.row_of.result _ c.row_of.ensures c.in_ok-row.was in
    (refuses_7 a.variant a.keys.now a.blocks.now a.out.now a.direction is.no_fault (no_fault a.variant a.keys.now a.blocks.now a.out.now c.if-n-eq0.false c.if-n-gt-LANES.false c.if-keys-n.false c.if-out-n.false)
    (sym (blocks_fault a.variant _ is.is_row a.blocks.now) ∙ sym c.any_wide.ensures ∙ c.if-any_wide.true)).0

pub result_rows-rows-requires-clause-by_index : goal.result_rows-rows-requires-clause-by_index
result_rows-rows-requires-clause-by_index c =
    let a = c.args in
    let is = row_found a.variant c.row_of.result _ c.row_of.ensures c.in_ok-row.was in
    all_below a.variant _ is.is_row a.blocks.now (sym c.any_wide.ensures ∙ c.if-any_wide.false)

pub returns : goal.returns
returns c =
    let a = c.args in
    let is = row_found a.variant c.row_of.result _ c.row_of.ensures c.in_ok-row.was in
    let w = c.result_rows-rows in
    let n = length a.blocks.now in
    let h : n ≤ length w.result = omega (arith, w.type_inv) in
    let both = done a.variant a.keys.now a.blocks.now a.out.now a.direction is.no_fault (no_fault a.variant a.keys.now a.blocks.now a.out.now c.if-n-eq0.false c.if-n-gt-LANES.false c.if-keys-n.false c.if-out-n.false)
    (sym (blocks_fault a.variant _ is.is_row a.blocks.now) ∙ sym c.any_wide.ensures ∙ c.if-any_wide.false)
    _ (c.copy_from_slice.ensures.after ∙ first_results a.direction a.variant a.keys.now a.blocks.now w.result h w.ensures) in
    record { result_value = both.0; out_after = both.1 }
