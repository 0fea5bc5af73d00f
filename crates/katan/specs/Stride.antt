-- A stride: the rounds of one block that the code works at once. Back, it undoes them at once as well, or, where the next tap stands too
-- near the highest, round by round.
-- Assumes nothing.
use Rattle.std.specs.Prelude.{ℕ, ◌+◌, ◌*◌, ◌/◌}
use Rattle.katan.specs.declared.Row.{Row}

-- its clocks are no more than the lowest tap, x5 and y6, and one, so that each clock finds at its taps bits that were there before the
-- first
abbrev pub stride_of : Row → ℕ
stride_of v = (v.x5 + 1) / v.clocks

-- the clocks of a stride
abbrev pub stride_clocks : Row → ℕ
stride_clocks v = stride_of v * v.clocks
