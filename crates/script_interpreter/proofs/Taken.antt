-- What is known of a line that is answered with a command: it may stand where it does, and it is not too long.
-- Assumes nothing.
use Prim.Native.Nat.{ℕ, ◌<◌}
use mathlib.Core.Path.{◌≡◌}
use mathlib.Core.List.{List}
use native.Mathlib.Omega.{arith}
use lib.ListN.{length}
use Rattle.katan.specs.Checks.{value, refused}
use Rattle.script_command.specs.declared.Command.{Command}
use Rattle.script_command.specs.Written.{line_length}
use Rattle.script_command.specs.Answer.{command_answer}
use Rattle.script_command.specs.Reads.{Stands}
use Rattle.script_command.proofs.Exact.{reads}

pub may_stand : (v : ℕ) (line : List ℕ) (c : Command) → command_answer v line ≡ value c → Stands v c
may_stand v line c e = ((reads v line).sound c e).stands

pub long_broken : (v : ℕ) (line : List ℕ) → line_length < length line → command_answer v line ≡ refused 13
long_broken v line h = (reads v line).broken (λ c k. omega (arith, k.short))
