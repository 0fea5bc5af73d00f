use Prim.Native.Nat.{◌≤◌}
use mathlib.Core.Path.{subst⁻¹}
use Rattle.script_form.proofs.Blocks.{digits_fit}
use Rattle.script_answers.specs.Printed.{answer_line}
use Rattle.script_answers.proofs.Lines.{at_fits}
use Rattle.script_answers.proofs.reading_line.Goals as goal

pub filled-requires : goal.filled-requires
filled-requires c = at_fits c.from.result c.from-position.result c.block_digits-digits.result _ (subst⁻¹ (◌≤ 16) c.block_digits-digits.ensures (digits_fit _))

pub returns-in-Ok : goal.returns-in-Ok
unfolding answer_line
returns-in-Ok c = rw (c.in-Ok.is, ← c.from.ensures, ← c.from-position.ensures, ← c.block_digits-digits.ensures) c.filled.ensures

pub returns-in-Err : goal.returns-in-Err
unfolding answer_line
returns-in-Err c = rw c.in-Err.is c.refused_line.ensures
