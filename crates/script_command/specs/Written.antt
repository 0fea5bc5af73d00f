-- How each command is written, once, as text (document 01, "Script").
-- Assumes nothing.
use Rattle.std.specs.Prelude.{ℕ, List, [], ◌∷◌}
use Rattle.katan.specs.Key.{key_number}
use Rattle.script_form.specs.Form.{bytes, fill, FieldsFit}
use Rattle.script_command.specs.declared.Command.{Command}
use Rattle.script_command.specs.declared.Command.TheVariants.{Bench, Read, Load, Forward, Back, Clear}

-- the form of a command's line
abbrev pub form_of : Command → List ℕ
form_of (Bench variant) = bytes "(bench %)"
form_of (Read lane) = bytes "(read %)"
form_of (Load number lane position key block) = bytes "(# (load % % (key &) (block *)))"
form_of (Forward number mask count) = bytes "(# (forward (lanes $) %))"
form_of (Back number mask count) = bytes "(# (back (lanes $) %))"
form_of (Clear number mask) = bytes "(# (clear (lanes $)))"

-- its fields, from left to right
abbrev pub fields_of : Command → List ℕ
fields_of (Bench variant) = variant ∷ []
fields_of (Read lane) = lane ∷ []
fields_of (Load number lane position key block) = number ∷ lane ∷ position ∷ key_number key ∷ block ∷ []
fields_of (Forward number mask count) = number ∷ mask ∷ count ∷ []
fields_of (Back number mask count) = number ∷ mask ∷ count ∷ []
fields_of (Clear number mask) = number ∷ mask ∷ []

-- its line, where a block has d digits
abbrev pub line_of : ℕ → Command → List ℕ
line_of d c = fill d (form_of c) (fields_of c)

-- its fields fit
abbrev pub CommandFits : ℕ → Command → Type 0
CommandFits d c = FieldsFit d (form_of c) (fields_of c)

-- a line has at most 120 bytes without its line feed
abbrev pub line_length : ℕ
line_length = 120
