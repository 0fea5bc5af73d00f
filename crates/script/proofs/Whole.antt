-- The whole script.
-- Assumes nothing.
use mathlib.Core.Path.{◌∙◌}
use Rattle.script.specs.Lines.{lines_of}
use Rattle.script.specs.Claim.{input, EveryScript}
use Rattle.script.proofs.Cut.{cut_lines, none_left}
use Rattle.script_interpreter.proofs.Same.{same_output}

-- THEOREM: for every input, cut into pieces in any way, each handed in with any space, the output is that of document 01's machines on the input's lines
pub every_script : EveryScript
every_script = record { same_output = λ handed e. cut_lines handed e ∙ same_output (lines_of (input handed)); nothing_left = none_left }
