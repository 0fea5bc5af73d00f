use Rattle.std.proofs.Common.{◌≡◌, ◌+◌, ◌*◌, ◌++◌, take, drop}
use Rattle.driver_layout.specs.Layout.{lane_length, slot_bytes}
use Rattle.driver_layout.proofs.write_bench.Given as goal

abbrev pub invariant-loop-i : goal.invariant-loop-i
invariant-loop-i l = let at = 1 + lane_length * l.i in take at l.out ++ slot_bytes (drop l.i l.lane-items) (drop at l.out) ≡ take 1 l.initial.out ++ slot_bytes l.lane-items (drop 1 l.initial.out)
