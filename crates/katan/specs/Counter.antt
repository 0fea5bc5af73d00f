-- Round counter (document 01, from document 004, section 4).
-- Assumes nothing.
use Rattle.std.specs.Prelude.{ℕ, zero, suc, ◌+◌, ◌*◌, ◌%◌}
use Rattle.katan.specs.Bit.{bit, xor}

-- one tick shifts T left; the new T0 is T7 xor T6 xor T4 xor T2
abbrev pub tick : ℕ → ℕ
tick t = t * 2 % 256 + xor (xor (xor (bit t 7) (bit t 6)) (bit t 4)) (bit t 2)

-- T of round r: FF, ticked once before round 0 and once after each round
abbrev pub counter : ℕ → ℕ
counter zero = tick 0xff
counter (suc r) = tick (counter r)

-- IR of a round, from its T
abbrev pub ir_of : ℕ → ℕ
ir_of t = bit t 7

-- the rounds are 0 to 253, the round positions 0 to 254
abbrev pub rounds : ℕ
rounds = 254
