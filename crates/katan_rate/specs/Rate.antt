-- Rate sheet (document 01, "After these"; document 02, (iv): the loading cycle).
-- Assumes nothing.
use Rattle.std.specs.Prelude.{ℕ, ◌+◌, ◌*◌, ◌/◌, ◌||◌, [], ◌∷◌, eqb, ltb}
use Rattle.katan.specs.Counter.{rounds}
use Rattle.katan.specs.Variant.{width_of}
use Rattle.katan.specs.Checks.{Outcome, value, Check, checked, variant_check}

-- the cycles that a block takes: one for loading, and its rounds
abbrev pub block_cycles : ℕ
block_cycles = rounds + 1

-- m blocks take 255 m cycles
abbrev pub cycles_of : ℕ → ℕ
cycles_of m = block_cycles * m

-- the highest clock rate, in hertz
abbrev pub highest_rate : ℕ
highest_rate = 2940000000

-- 12: the clock rate is 0 or over 2,940,000,000
abbrev pub clock_rate_check : ℕ → Check
clock_rate_check f = record { number = 12; fault = eqb f 0 || ltb highest_rate f }

-- at f hertz the bit rate is n f div 255
abbrev pub bit_rate : ℕ → ℕ → ℕ
bit_rate v f = width_of v * f / block_cycles

-- the rate, or the refusal's number
abbrev pub rate_answer : ℕ → ℕ → Outcome ℕ
rate_answer v f = checked (variant_check v ∷ clock_rate_check f ∷ []) (value (bit_rate v f))
