-- What a line is answered with: a command, or a refusal's number (document 01, check 13). Reads says of every line what `command_answer` must be, and
-- proofs/Exact proves it.
-- Assumes nothing.
use Rattle.std.specs.Prelude.{ℕ, List, Option, Some, None}
use Rattle.katan.specs.Checks.{Outcome, value, refused, number_of}
use Rattle.katan.specs.declared.Refusal.TheVariants.{BadForm}
use Rattle.script_command.specs.scanner.Reading.{command_in}
use Rattle.script_command.specs.declared.Command.{Command}

abbrev pub line_outcome : Option Command → Outcome Command
line_outcome (Some c) = value c
line_outcome None = refused (number_of BadForm)

-- on an open bench of variant v; v is 0 where none is open
unfoldable pub command_answer : ℕ → List ℕ → Outcome Command
command_answer v line = line_outcome (command_in v line)
