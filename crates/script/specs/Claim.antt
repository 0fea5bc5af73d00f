-- The whole script as one claim.
-- Assumes nothing.
use Rattle.std.specs.Prelude.{ℕ, ◌*◌, ◌≤◌, ◌≡◌, List, [], ◌∷◌, ◌++◌, length, drop}
use Rattle.script_answers.specs.Printed.{room}
use Rattle.script_interpreter.specs.Interpreter.{script_output}
use Rattle.script_interpreter.specs.Session.{none, fresh, machines_variant, machines_transition}
use Rattle.script.specs.Lines.{lines_of}
use Rattle.script.specs.Pieces.{started, on_bytes, at_end, Taken, on_piece, all_taken, piece_length, output_length}
use Rattle.script.specs.declared.Script.{Script}

-- ---- one call

-- a call, and then the rest of its piece: the script after both, and all that they print
abbrev pub and_the_rest : (piece : List ℕ) → Taken → Script × List ℕ
and_the_rest piece t = ((on_bytes t.script (drop t.used piece)).0, t.output ++ (on_bytes t.script (drop t.used piece)).1)

pub record LosesNothing (space : ℕ) (x : Script) (piece : List ℕ) : Type 0 where
  -- nothing is lost, and nothing is answered twice
  pub same : and_the_rest piece (on_piece space x piece) ≡ on_bytes x piece
  pub has_space : length (on_piece space x piece).output ≤ space
  pub within : (on_piece space x piece).used ≤ length piece
  -- with room for one line, some of the piece is taken
  pub goes_on : room ≤ space → 1 ≤ length piece → 1 ≤ (on_piece space x piece).used
  -- with room for a line for each byte, all of it is taken
  pub used_up : length piece * room ≤ space → on_piece space x piece ≡ all_taken x piece

abbrev pub EveryPiece : Type 0
EveryPiece = (space : ℕ) (x : Script) (piece : List ℕ) → LosesNothing space x piece

-- the program's output has room for all that it reads at a time
abbrev pub EveryPieceRead : Type 0
EveryPieceRead = (x : Script) (piece : List ℕ) → length piece ≤ piece_length → on_piece output_length x piece ≡ all_taken x piece

-- ---- a whole input

-- what a caller hands to a call: a piece of the input, and space for what it prints
pub record Handed : Type 0 where
  pub piece : List ℕ
  pub space : ℕ

-- after some calls: the script, what the last call has left of its piece, and all that was printed
pub record Progress : Type 0 where
  pub script : Script
  pub left : List ℕ
  pub output : List ℕ

-- what is left is handed in again, before the next piece
abbrev pub next_call : Progress → Handed → Progress
next_call p h =
    let piece = p.left ++ h.piece in
    let t = on_piece h.space p.script piece in
    record { script = t.script; left = drop t.used piece; output = p.output ++ t.output }

unfoldable pub after_calls : Progress → List Handed → Progress
after_calls p [] = p
after_calls p (h ∷ handed) = after_calls (next_call p h) handed

abbrev pub from_start : List Handed → Progress
from_start = after_calls (record { script = started; left = []; output = [] })

-- the pieces joined
abbrev pub input : List Handed → List ℕ
input [] = []
input (h ∷ handed) = h.piece ++ input handed

-- the output of document 01's machines for the lines of an input, from no bench on
abbrev pub machines_output : List ℕ → List ℕ
machines_output bytes = script_output machines_variant fresh machines_transition none (lines_of bytes)

-- each piece comes with room for a line for each of its bytes
abbrev pub Roomy : List Handed → Type 0
Roomy [] = Unit {0}
Roomy (h ∷ handed) = (length h.piece * room ≤ h.space) × Roomy handed

-- for every input, cut into pieces in any way, each handed in with any space
pub record EveryScript : Type 0 where
  -- where nothing is left, the calls and the end of the input print the output of the machines
  pub same_output : (handed : List Handed) → (from_start handed).left ≡ [] → (from_start handed).output ++ at_end (from_start handed).script ≡ machines_output (input handed)
  pub nothing_left : (handed : List Handed) → Roomy handed → (from_start handed).left ≡ []
