-- Document 02's formulas of the rate sheet, and what it reads at 100,000 Hz.
-- Assumes nothing.
use Prim.Native.Nat.{ℕ, ◌*◌, ◌/◌}
use mathlib.Core.Path.{◌≡◌, refl}
use Rattle.katan.specs.Variant.{width_of}
use Rattle.katan_rate.specs.Rate.{cycles_of, bit_rate}

pub cycles_formula : (m : ℕ) → cycles_of m ≡ 255 * m
cycles_formula m = refl

pub rate_formula : (v f : ℕ) → bit_rate v f ≡ width_of v * f / 255
rate_formula v f = refl

-- In bits a second. Document 004 prints 12.5, 18.8 and 25.1 kbit/s; by 254 cycles a block it would be 12,598, 18,897 and 25,196, which are 12.6,
-- 18.9 and 25.2.
pub katan32 : bit_rate 1 100000 ≡ 12549
katan32 = refl

pub katan48 : bit_rate 2 100000 ≡ 18823
katan48 = refl

pub katan64 : bit_rate 3 100000 ≡ 25098
katan64 = refl
