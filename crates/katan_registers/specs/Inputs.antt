-- What the round that starts at a position takes.
-- Assumes nothing.
use Rattle.std.specs.Prelude.{ℕ, ltb}
use Rattle.katan.specs.Bit.{pick}
use Rattle.katan.specs.Counter.{rounds}
use Rattle.katan.specs.Clock.{input_of}
use Rattle.katan.specs.declared.RoundInput.{RoundInput}

-- no round starts at the last position or above: zeros stand for its input
abbrev pub round_input : (v key p : ℕ) → RoundInput
round_input v key p = pick (ltb p rounds) (input_of v key p) (record { ir = 0; ka = 0; kb = 0 })
