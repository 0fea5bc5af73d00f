-- The line that each answer prints (document 01, "Script").
-- Assumes nothing.
use Rattle.std.specs.Prelude.{ℕ, ◌-◌, List, [], ◌∷◌, ◌++◌, length, replicate}
use Prim.Native.String.{String}
use Rattle.katan.specs.Checks.{value, refused}
use Rattle.bench.specs.Calls.{done, again, at, Answer}
use Rattle.script_form.specs.Form.{bytes, fill, block_digits}
use Rattle.script_answers.specs.declared.Printed.{Printed}

abbrev pub line_feed : ℕ
line_feed = 10

-- a form with its values, and the line feed, where a block has d digits
abbrev pub line_as : ℕ → String → List ℕ → List ℕ
line_as d form values = fill d (bytes form ++ (line_feed ∷ [])) values

-- an accepted bench line's
unfoldable pub opened_line : ℕ → List ℕ
opened_line v = line_as 0 "(bench %)" (v ∷ [])

-- done and again give number, total; at gives lane, position, registers; a refusal gives its number. v is the bench's variant, and lane the lane read.
unfoldable pub answer_line : ℕ → ℕ → Answer → List ℕ
answer_line v lane (value (done number total)) = line_as 0 "(done # #)" (number ∷ total ∷ [])
answer_line v lane (value (again number total)) = line_as 0 "(again # #)" (number ∷ total ∷ [])
answer_line v lane (value (at r)) = line_as (block_digits v) "(at % % *)" (lane ∷ r.position.0 ∷ r.registers ∷ [])
answer_line v lane (refused k) = line_as 0 "(refused %)" (k ∷ [])

-- the room that the code has for a printed line
abbrev pub room : ℕ
room = 64

-- a printed line in it, and zeros after
abbrev pub printed_as : List ℕ → Printed
printed_as line = record { bytes = line ++ replicate (room - length line) 0; length = length line }
