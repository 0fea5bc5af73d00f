use mathlib.Core.Path.{ap, ◌∙◌}
use Rattle.katan.specs.declared.Row.{Row}
use Rattle.katan.proofs.Variants.{row_found, row_refused, first_row}
use Rattle.katan_variants.proofs.width_of.Goals as goal

pub returns-in-Ok : goal.returns-in-Ok
returns-in-Ok c =
    ap (λ (r : Row). r.n) (row_found c.args.variant c.row_of.result _ c.row_of.ensures c.in-Ok.is).is_row

pub returns-in-Err : goal.returns-in-Err
returns-in-Err c =
    ap (λ (r : Row). r.n)
    (c.row.ensures ∙ first_row c.args.variant (row_refused c.args.variant c.row_of.result _ c.row_of.ensures c.in-Err.is).0)
