-- A turn of the loop over a piece: its first line.
-- Assumes nothing.
use Rattle.std.specs.Prelude.{ℕ, ◌-◌, ◌≤◌, ◌≡◌, List, [], Option, Some, None, length, take, drop}
use Rattle.script_answers.specs.Printed.{room}
use Rattle.script_answers.specs.declared.Printed.{Printed}
use Rattle.script_interpreter.specs.declared.Session.{Session}
use Rattle.script.specs.Pieces.{Taken, nothing_taken, taken_after, on_piece}
use Rattle.script.specs.declared.Pending.{Pending}
use Rattle.script.specs.declared.Script.{Script}
use Rattle.script.specs.declared.Step.{Step}

abbrev pub not_ended : Session → Pending → ℕ → Step
not_ended s p used = record { script = record { session = s; pending = p }; used = used; printed = None }

abbrev pub line_of : Printed → List ℕ
line_of p = take p.length p.bytes

-- the line and then the rest of the piece, or no line and no more
abbrev pub taken_with : (space : ℕ) (piece : List ℕ) → Script → (used : ℕ) → Option Printed → Taken
taken_with space piece x used None = taken_after used [] (nothing_taken x)
taken_with space piece x used (Some p) = taken_after used (line_of p) (on_piece (space - p.length) x (drop used piece))

abbrev pub step_taken : (space : ℕ) (piece : List ℕ) → Step → Taken
step_taken space piece s = taken_with space piece s.script s.used s.printed

-- a line that is printed takes a byte of the piece, and has room and space
abbrev pub Fits : (space used : ℕ) → Option Printed → Type 0
Fits space used None = Unit {0}
Fits space used (Some p) = (1 ≤ used) × (p.length ≤ room) × (p.length ≤ space)

pub record Steps (space : ℕ) (x : Script) (piece : List ℕ) (s : Step) : Type 0 where
  pub whole : on_piece space x piece ≡ step_taken space piece s
  pub within : s.used ≤ length piece
  pub fits : Fits space s.used s.printed
