-- A form is a line with marks for its fields; values are written into it in order:
--     #   a decimal up to 4294967295        %   a decimal up to 255
--     &   a key, 20 hexadecimal digits      $   a mask, 16 hexadecimal digits
--     *   a block, as many hexadecimal digits as the open bench's blocks have
-- Any other byte stands for itself.
-- Assumes nothing.
use Rattle.std.specs.Prelude.{ℕ, ◌≤◌, ◌<◌, ◌^◌, ◌/◌, List, [], ◌∷◌, ◌++◌, eqb}
use Prim.Native.Char.{code}
use Prim.Native.String as Str
use Prim.Native.String.{String}
use Rattle.katan.specs.Bit.{pick}
use Rattle.katan.specs.Variant.{width_of}
use Rattle.script_form.specs.Digits.{decimal, hex}

-- the bytes of a text
abbrev pub bytes : String → List ℕ
bytes Str.[] = []
bytes (Str.◌∷◌ c s) = code c ∷ bytes s

-- what a byte of a form stands for: itself, a decimal up to a maximum, or so many hexadecimal digits
pub data Piece : Type 0 where
  letter : Piece
  number : (max : ℕ) → Piece
  digits : (count : ℕ) → Piece

-- where a block has d digits
abbrev pub piece_of : ℕ → ℕ → Piece
piece_of d p =
    pick (eqb p 35) (number 4294967295)
    (pick (eqb p 37) (number 255)
    (pick (eqb p 38) (digits 20)
    (pick (eqb p 36) (digits 16)
    (pick (eqb p 42) (digits d) letter))))

abbrev pub first : List ℕ → ℕ
first [] = 0
first (v ∷ vs) = v

abbrev pub rest : List ℕ → List ℕ
rest [] = []
rest (v ∷ vs) = vs

abbrev pub fill_piece : Piece → ℕ → List ℕ → (List ℕ → List ℕ) → List ℕ
fill_piece letter p vs more = p ∷ more vs
fill_piece (number max) p vs more = decimal (first vs) ++ more (rest vs)
fill_piece (digits count) p vs more = hex count (first vs) ++ more (rest vs)

-- a form with its values written in
abbrev pub fill : ℕ → List ℕ → List ℕ → List ℕ
fill d [] vs = []
fill d (p ∷ ps) vs = fill_piece (piece_of d p) p vs (λ (ws : List ℕ). fill d ps ws)

abbrev pub fits_piece : Piece → List ℕ → (List ℕ → Type 0) → Type 0
fits_piece letter vs more = more vs
fits_piece (number max) vs more = (first vs ≤ max) × more (rest vs)
fits_piece (digits count) vs more = (first vs < 16 ^ count) × more (rest vs)

-- each value is one that its field can hold
abbrev pub FieldsFit : ℕ → List ℕ → List ℕ → Type 0
FieldsFit d [] vs = Unit {0}
FieldsFit d (p ∷ ps) vs = fits_piece (piece_of d p) vs (λ (ws : List ℕ). FieldsFit d ps ws)

-- blocks have n/4 digits
abbrev pub block_digits : ℕ → ℕ
block_digits v = width_of v / 4
