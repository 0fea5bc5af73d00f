-- A sheet (document 02, (ix)): for block and for key, the bits known as 1 and the bits known as 0.
-- Assumes nothing.
use Rattle.std.specs.Prelude.{ℕ, zero, suc, Bool, not, List, eqb, get_or}
use Rattle.katan.specs.Bit.{bit, and, or, tabulate, from_bits}
use Rattle.katan.specs.Key.{key_length}
use Rattle.katan.specs.Variant.{width_of}
use Rattle.katan_sheet.specs.Three.{Three, is0, is1, unknown, xor_three, and_three, known}
use Rattle.katan_sheet.specs.Cells.{bits_at}
use Rattle.katan_sheet.specs.declared.Known.{Known}

-- a bit that is given as known as 1, as known as 0, or as neither; one that is given as both is refused (16)
abbrev pub given : (one zero : ℕ) → Three
given (suc b) c = is1
given zero (suc c) = is0
given zero zero = unknown

abbrev pub bits_given : (n : ℕ) → Known ℕ → List Three
bits_given n k = tabulate (λ i. given (bit k.ones i) (bit k.zeros i)) 0 n

-- and how it is given
abbrev pub one_of : Three → ℕ
one_of is0 = 0
one_of is1 = 1
one_of unknown = 0

abbrev pub zero_of : Three → ℕ
zero_of is0 = 1
zero_of is1 = 0
zero_of unknown = 0

abbrev pub sheet_of : (n : ℕ) → List Three → Known ℕ
sheet_of n bits = record { ones = from_bits (λ i. one_of (get_or bits i is0)) n; zeros = from_bits (λ i. zero_of (get_or bits i is0)) n }

-- what is known of the registers at position p, with the block in them at position 0
unfoldable pub smudged_at : (v : ℕ) → (key block : Known ℕ) → (p : ℕ) → Known ℕ
smudged_at v key block p = sheet_of (width_of v) (bits_at xor_three and_three known v (bits_given key_length key) (bits_given (width_of v) block) p)

-- what either of two knows
abbrev pub joined : Known ℕ → Known ℕ → Known ℕ
joined k l = record { ones = or k.ones l.ones; zeros = or k.zeros l.zeros }

-- a bit is known both as 0 and as 1
abbrev pub contradicts : Known ℕ → Bool
contradicts k = not (eqb (and k.ones k.zeros) 0)
