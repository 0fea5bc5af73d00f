-- The lines of an input (document 01, "Script").
-- Assumes nothing.
use Rattle.std.specs.Prelude.{ℕ, List, [], ◌∷◌, eqb}
use Rattle.katan.specs.Bit.{pick}
use Rattle.script_answers.specs.Printed.{line_feed}

-- a byte in front of the first line
abbrev pub before : ℕ → List (List ℕ) → List (List ℕ)
before x [] = (x ∷ []) ∷ []
before x (line ∷ lines) = (x ∷ line) ∷ lines

-- lines end at line feeds; the last may lack one, and a final line feed opens no further line
unfoldable pub lines_of : List ℕ → List (List ℕ)
lines_of [] = []
lines_of (x ∷ input) = pick (eqb x line_feed) ([] ∷ lines_of input) (before x (lines_of input))
