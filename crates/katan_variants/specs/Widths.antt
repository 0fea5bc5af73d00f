-- The three widths of blocks: what holds of the rows of all three holds of each.
-- Assumes nothing.
use Rattle.std.specs.Prelude.{◌≡◌, ◌⊎◌, refl}
use Rattle.std.proofs.Common.{inl, inr}
use Rattle.katan.specs.Variant.{row32, row48, row64}
use Rattle.katan.specs.declared.Row.{Row}

-- a row of the table
abbrev pub IsRow : Row → Type 0
IsRow v = (v ≡ row32) ⊎ (v ≡ row48) ⊎ (v ≡ row64)

pub is_row32 : IsRow row32
is_row32 = inl refl

pub is_row48 : IsRow row48
is_row48 = inr (inl refl)

pub is_row64 : IsRow row64
is_row64 = inr (inr refl)
