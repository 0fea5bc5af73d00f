use mathlib.Core.Path.{sym, subst}
use Rattle.katan_variants.specs.Widths.{IsRow}
use Rattle.katan_clocks.proofs.Steps.{sound_row, stride_goes}
use Rattle.katan_clocks.proofs.Clocks.of_stride.Goals as goal

pub invariant_of-result : goal.invariant_of-result
invariant_of-result g c =
    let v = c.row-row.result in
    let k : IsRow v = subst IsRow (sym c.row-row.ensures) g.W.Width.known in
    let goes = stride_goes v k in
    record { sound = sound_row v k; some = goes.0; few = goes.1 }
