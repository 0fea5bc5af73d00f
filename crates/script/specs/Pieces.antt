-- An input taken in pieces: what each byte leaves, and prints.
-- Assumes nothing.
use Rattle.std.specs.Prelude.{ℕ, ◌+◌, ◌-◌, ◌*◌, List, [], ◌∷◌, ◌++◌, eqb, leb, ltb, length, take, drop, set, replicate}
use Rattle.katan.specs.Bit.{pick}
use Rattle.script_answers.specs.Printed.{line_feed, room}
use Rattle.script_command.specs.Written.{line_length}
use Rattle.script_interpreter.specs.Session.{no_bench, session_line}
use Rattle.script_interpreter.specs.declared.Session.{Session}
use Rattle.script.specs.declared.Pending.{Pending}
use Rattle.script.specs.declared.Script.{Script}
use Rattle.script.specs.declared.Answered.{Answered}

-- a line that has begun: one byte more than a line may have tells that it is too long
abbrev pub pending_room : ℕ
pending_room = line_length + 1

abbrev pub nothing_pending : Pending
nothing_pending = record { bytes = replicate pending_room 0; length = 0 }

unfoldable pub kept : Pending → ℕ → Pending
kept p x = pick (ltb p.length pending_room) (record { bytes = set p.bytes p.length x; length = p.length + 1 }) p

abbrev pub emptied : Pending → Pending
emptied p = record { bytes = p.bytes; length = 0 }

abbrev pub line_in : Pending → List ℕ
line_in p = take p.length p.bytes

-- ---- a byte, and bytes

abbrev pub started : Script
started = record { session = no_bench; pending = nothing_pending }

-- a line feed ends the line
abbrev pub ended_with : Pending → Session × List ℕ → Script × List ℕ
ended_with p t = (record { session = t.0; pending = emptied p }, t.1)

abbrev pub on_line_feed : Script → Script × List ℕ
on_line_feed x = ended_with x.pending (session_line x.session (line_in x.pending))

unfoldable pub on_byte : Script → ℕ → Script × List ℕ
on_byte x b = pick (eqb b line_feed) (on_line_feed x) (record { session = x.session; pending = kept x.pending b }, [])

unfoldable pub on_bytes : Script → List ℕ → Script × List ℕ
on_bytes x [] = (x, [])
on_bytes x (b ∷ bytes) = ((on_bytes (on_byte x b).0 bytes).0, (on_byte x b).1 ++ (on_bytes (on_byte x b).0 bytes).1)

-- at the end of the input a line that has begun ends
unfoldable pub at_end : Script → List ℕ
at_end x = pick (eqb x.pending.length 0) [] (session_line x.session (line_in x.pending)).1

-- ---- a call: a piece of the input, and the space lent for what it prints

-- the script that a call leaves, how many bytes of the piece it has taken, and what it prints
pub record Taken : Type 0 where
  pub script : Script
  pub used : ℕ
  pub output : List ℕ

abbrev pub nothing_taken : Script → Taken
nothing_taken x = record { script = x; used = 0; output = [] }

-- n bytes more in front, which print the output
abbrev pub taken_after : (n : ℕ) (output : List ℕ) → Taken → Taken
taken_after n output t = record { script = t.script; used = n + t.used; output = output ++ t.output }

-- bytes are taken one after the other, up to the first for whose output the space that is left is too small
unfoldable pub on_piece : (space : ℕ) → Script → (piece : List ℕ) → Taken
on_piece space x [] = nothing_taken x
on_piece space x (b ∷ piece) =
    let t = on_byte x b in
    pick (leb (length t.1) space) (taken_after 1 t.1 (on_piece (space - length t.1) t.0 piece)) (nothing_taken x)

-- all of a piece
abbrev pub all_taken : Script → (piece : List ℕ) → Taken
all_taken x piece = record { script = (on_bytes x piece).0; used = length piece; output = (on_bytes x piece).1 }

-- what the code gives back
abbrev pub answered_as : Taken → Answered
answered_as t = record { script = t.script; used = t.used; count = length t.output }

-- the output at the start of the memory lent for it; the rest of it stays as it was
abbrev pub written_to : (memory output : List ℕ) → List ℕ
written_to memory output = output ++ drop (length output) memory

-- a piece as the program reads it, and an output with room for a line for each of its bytes
abbrev pub piece_length : ℕ
piece_length = 4096

abbrev pub output_length : ℕ
output_length = piece_length * room
