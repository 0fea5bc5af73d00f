use mathlib.Core.Path.{◌∙◌, ap}
use Prim.Native.Nat.{ℕ}
use Rattle.script_answers.specs.Printed.{opened_line, printed_as}
use Rattle.script_answers.proofs.Lines.{opened_fits}
use Rattle.script_answers.proofs.opened_line.Goals as goal

pub filled-requires : goal.filled-requires
filled-requires c = opened_fits _ 0

pub returns : goal.returns
unfolding opened_line
returns c = c.filled.ensures ∙ ap (λ (n : ℕ). printed_as (opened_line n)) c.from.ensures
