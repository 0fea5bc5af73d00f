-- What a motion does to a lane, and to all lanes that a mask names.
-- Assumes nothing.
use Rattle.std.specs.Prelude.{ℕ, Bool, List, [], ◌∷◌, Option, None}
use Rattle.katan.specs.Bit.{pick}
use Rattle.bench.specs.declared.Loaded.{Loaded}
use Rattle.bench.specs.declared.Bench.{Bench}
use Rattle.bench.specs.Checks.{bench_check}
use Rattle.bench.specs.Bench.{lane_view}
use Rattle.bench.specs.Steps.{forward_lane, back_lane, forward_moved, back_moved}
use Rattle.bench_moves.specs.declared.Motion.{Motion}
use Rattle.bench_moves.specs.declared.Motion.TheVariants.{Forward, Back, Clear}

abbrev pub lane_as : ℕ → Motion → Option Loaded → Option Loaded
lane_as v (Forward c) = forward_lane v c
lane_as v (Back c) = back_lane v c
lane_as v Clear = λ l. None

-- a clear's total is 0
abbrev pub moved_as : Motion → Option Loaded → ℕ
moved_as (Forward c) = forward_moved c
moved_as (Back c) = back_moved c
moved_as Clear = λ l. 0

-- check 1 of one lane
abbrev pub bad_lane : ℕ → Option Loaded → Bool
bad_lane v l = (bench_check v (lane_view l ∷ [])).fault

-- a lane in which it finds a fault stays as it is
unfoldable pub step_lane : ℕ → Motion → Option Loaded → Option Loaded
step_lane v m l = pick (bad_lane v l) l (lane_as v m l)

unfoldable pub move_lane : ℕ → Motion → Option Loaded → ℕ
move_lane v m l = pick (bad_lane v l) 0 (moved_as m l)

abbrev pub with_slots : Bench → List (Option Loaded) → Bench
with_slots b ss = record { variant = b.variant; slots = ss }
