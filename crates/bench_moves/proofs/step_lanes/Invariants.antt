use mathlib.Core.Path.{◌≡◌}
use mathlib.Core.List.{◌++◌}
use Prim.Native.Nat.{◌+◌, ◌*◌, ◌/◌, ◌^◌, ◌≤◌}
use lib.ListN.{length, take, drop}
use Rattle.katan.specs.Sizes.{lane_count}
use Rattle.bench.specs.Steps.{step_slots, moved_slots}
use Rattle.bench_moves.specs.Moves.{step_lane, move_lane}
use Rattle.bench_moves.proofs.step_lanes.Given as goal

abbrev pub invariant-loop-i : goal.invariant-loop-i
invariant-loop-i l =
    ((length l.lane-items ≡ lane_count) × (l.total ≤ 255 * l.i))
    × (take l.i l.lane-items ++ step_slots (step_lane l.variant l.motion) (l.mask / 2 ^ l.i) (drop l.i l.lane-items) ≡ step_slots (step_lane l.variant l.motion) l.mask l.initial.lane-items)
    × (l.total + moved_slots (move_lane l.variant l.motion) (l.mask / 2 ^ l.i) (drop l.i l.lane-items) ≡ moved_slots (move_lane l.variant l.motion) l.mask l.initial.lane-items)
