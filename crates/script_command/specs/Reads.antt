-- What a line is taken for (document 01, "Script" and check 13).
-- Assumes nothing.
use Rattle.std.specs.Prelude.{ℕ, ◌≤◌, ◌<◌, ◌^◌, ◌≡◌, List, length}
use Rattle.katan.specs.Checks.{Outcome, value, refused}
use Rattle.script_form.specs.Form.{block_digits}
use Rattle.script_command.specs.Written.{line_of, CommandFits, line_length}
use Rattle.script_command.specs.declared.Command.{Command}
use Rattle.script_command.specs.declared.Command.TheVariants.{Bench, Read, Load, Forward, Back, Clear}

-- a bench is open: one of variant 1 to 6
abbrev pub Open : ℕ → Type 0
Open v = (1 ≤ v) × (v ≤ 6)

-- a bench line, or a line after an accepted one
abbrev pub Stands : ℕ → Command → Type 0
Stands v (Bench variant) = Unit {0}
Stands v (Read lane) = Open v
Stands v (Load number lane position key block) = Open v
Stands v (Forward number mask count) = Open v
Stands v (Back number mask count) = Open v
Stands v (Clear number mask) = Open v

-- a key's lower word is one of 64 bits, as in the code: so a key has one number, and a number one key
abbrev pub KeyHeld : Command → Type 0
KeyHeld (Bench variant) = Unit {0}
KeyHeld (Read lane) = Unit {0}
KeyHeld (Load number lane position key block) = key.low < 2 ^ 64
KeyHeld (Forward number mask count) = Unit {0}
KeyHeld (Back number mask count) = Unit {0}
KeyHeld (Clear number mask) = Unit {0}

-- the line is what the command is written as, its fields fit, and it may stand here
pub record IsLine (v : ℕ) (line : List ℕ) (c : Command) : Type 0 where
  pub text : line ≡ line_of (block_digits v) c
  pub fits : CommandFits (block_digits v) c
  pub key : KeyHeld c
  pub short : length line ≤ line_length
  pub stands : Stands v c

-- a line is answered with a command exactly when it is that command's; one that is no command's is refused 13
pub record Reads (v : ℕ) (line : List ℕ) (r : Outcome Command) : Type 0 where
  pub sound : (c : Command) → r ≡ value c → IsLine v line c
  pub complete : (c : Command) → IsLine v line c → r ≡ value c
  pub broken : ((c : Command) → IsLine v line c → ⊥) → r ≡ refused 13
