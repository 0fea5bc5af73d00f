-- The variants' table (document 01, "Clock and round").
-- Assumes nothing.
use Rattle.std.specs.Prelude.{ℕ, ◌-◌, Bool, List, [], ◌∷◌, leb, get_or}
use Rattle.katan.specs.declared.Row.{Row}

abbrev pub row32 : Row
row32 = record { n = 32; len1 = 13; len2 = 19; x1 = 12; x2 = 7; x3 = 8; x4 = 5; x5 = 3; y1 = 18; y2 = 7; y3 = 12; y4 = 10; y5 = 8; y6 = 3; clocks = 1 }

abbrev pub row48 : Row
row48 = record { n = 48; len1 = 19; len2 = 29; x1 = 18; x2 = 12; x3 = 15; x4 = 7; x5 = 6; y1 = 28; y2 = 19; y3 = 21; y4 = 13; y5 = 15; y6 = 6; clocks = 2 }

abbrev pub row64 : Row
row64 = record { n = 64; len1 = 25; len2 = 39; x1 = 24; x2 = 15; x3 = 20; x4 = 11; x5 = 9; y1 = 38; y2 = 25; y3 = 33; y4 = 21; y5 = 14; y6 = 9; clocks = 3 }

-- 1 KATAN32, 2 KATAN48, 3 KATAN64, 4 KTANTAN32, 5 KTANTAN48, 6 KTANTAN64
abbrev pub rows : List Row
rows = row32 ∷ row48 ∷ row64 ∷ row32 ∷ row48 ∷ row64 ∷ []

abbrev pub row_of : ℕ → Row
row_of v = get_or rows (v - 1) row32

abbrev pub width_of : ℕ → ℕ
width_of v = (row_of v).n

-- of the variants 1 to 6, the first three are KATAN and the others KTANTAN
abbrev pub last_katan : ℕ
last_katan = 3

abbrev pub is_katan : ℕ → Bool
is_katan v = leb v last_katan
