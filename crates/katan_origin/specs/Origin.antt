-- What a call for a clock's two bits answers (document 02, (vii)).
-- Assumes nothing.
use Rattle.std.specs.Prelude.{ℕ, ◌+◌, List, [], ◌∷◌, ltb}
use Rattle.katan.specs.Bit.{number_in}
use Rattle.katan.specs.Checks.{Outcome, value, Check, checked, variant_check, key_check, block_check}
use Rattle.katan_origin.specs.declared.ClockBits.{ClockBits}
use Rattle.katan_origin.specs.Chains.{fa_at, fb_at}

-- fa and fb of a clock, and the block bits looked up for both
abbrev pub origin_of : (v key x t : ℕ) → ClockBits
origin_of v key x t = record { fa = (fa_at v key x t).bit; fb = (fb_at v key x t).bit; looked_up = (fa_at v key x t).count + (fb_at v key x t).count }

-- the clock numbers are 0 to 23
abbrev pub last_clock : ℕ
last_clock = 23

-- 15: the clock number is over 23
abbrev pub clock_check : ℕ → Check
clock_check t = record { number = 15; fault = ltb last_clock t }

-- 1, 2, 15, 7
abbrev pub origin_checks : (v : ℕ) → List ℕ → (x t : ℕ) → List Check
origin_checks v key x t = variant_check v ∷ key_check key ∷ clock_check t ∷ block_check v x ∷ []

abbrev pub origin_answer : (v : ℕ) → List ℕ → (x t : ℕ) → Outcome ClockBits
origin_answer v key x t = checked (origin_checks v key x t) (value (origin_of v (number_in key) x t))
