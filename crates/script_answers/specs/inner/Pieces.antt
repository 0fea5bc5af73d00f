-- What a byte of a form is written as, with the next value.
-- Assumes nothing.
use Rattle.std.specs.Prelude.{ℕ, ◌+◌, ◌≤◌, ◌≡◌, List, [], ◌∷◌, ◌++◌, Option, Some, None, take, drop, length}
use Rattle.script_form.specs.Digits.{fixed, decimal, hex}
use Rattle.script_form.specs.Form.{Piece, letter, number, digits}
use Rattle.script_answers.specs.declared.form.Digits.{Digits}

abbrev pub text_of : Piece → ℕ → ℕ → List ℕ
text_of letter p v = p ∷ []
text_of (number max) p v = decimal v
text_of (digits count) p v = hex count v

-- how many values it takes
abbrev pub values_taken : Piece → ℕ
values_taken letter = 0
values_taken (number max) = 1
values_taken (digits count) = 1

-- the same of the digits that the code writes, if any
abbrev pub shape_text : Option Digits → ℕ → ℕ → List ℕ
shape_text None p v = p ∷ []
shape_text (Some d) p v = fixed d.base d.count v

abbrev pub shape_taken : Option Digits → ℕ
shape_taken None = 0
shape_taken (Some d) = 1

abbrev pub BaseFits : Option Digits → Type 0
BaseFits None = Unit {0}
BaseFits (Some d) = (1 ≤ d.base) × (d.base ≤ 16)

-- they say of the byte p with the value v what the piece says
pub record Shapes (s : Option Digits) (q : Piece) (p v : ℕ) : Type 0 where
  pub text : shape_text s p v ≡ text_of q p v
  pub takes : shape_taken s ≡ values_taken q
  pub base : BaseFits s

-- a text put at a place of a longer one
abbrev pub put_at : ℕ → List ℕ → List ℕ → List ℕ
put_at at text out = take at out ++ (text ++ drop (at + length text) out)
