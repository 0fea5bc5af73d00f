use Rattle.std.proofs.Common.{◌≡◌, ◌+◌, ◌*◌, ◌-◌, ◌++◌, length, take, drop}
use Rattle.katan.specs.Sizes.{lane_count}
use Rattle.driver_layout.specs.Layout.{lane_length, slots_in}
use Rattle.driver_layout.proofs.whole_bench.Given as goal

abbrev pub invariant-loop-i : goal.invariant-loop-i
invariant-loop-i l = record {
  all_lanes : length l.slot-items ≡ lane_count;
  so_far : take l.i l.slot-items ++ slots_in (lane_count - l.i) (drop (1 + lane_length * l.i) l.bytes) ≡ slots_in lane_count (drop 1 l.bytes);
}
