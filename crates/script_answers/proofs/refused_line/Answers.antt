use Prim.Native.Nat.{ℕ}
use mathlib.Core.Path.{ap, ◌∙◌}
use Rattle.katan.specs.Checks.{refused}
use Rattle.script_answers.specs.Printed.{answer_line, printed_as}
use Rattle.script_answers.proofs.Lines.{refused_fits}
use Rattle.script_answers.proofs.refused_line.Goals as goal

pub filled-requires : goal.filled-requires
filled-requires c = refused_fits _ 0

pub returns : goal.returns
unfolding answer_line
returns c = c.filled.ensures ∙ ap (λ (n : ℕ). printed_as (answer_line 0 0 (refused n))) (c.from.ensures ∙ c.from-number.ensures)
