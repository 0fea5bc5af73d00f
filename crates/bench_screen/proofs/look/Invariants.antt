use mathlib.Core.Path.{◌≡◌}
use mathlib.Core.Bool.{false}
use mathlib.Core.List.{map}
use Prim.Native.Nat.{◌<◌}
use lib.ListN.{length, drop}
use Rattle.katan.specs.Bit.{from_bits}
use Rattle.katan.specs.Checks.{variant_check}
use Rattle.katan.specs.Sizes.{lane_count}
use Rattle.katan.specs.inner.Within.{Entries}
use Rattle.bench.specs.Checks.{any_lane_fault}
use Rattle.bench.specs.Bench.{lane_view}
use Rattle.bench_screen.specs.Screen.{lane_number, lane_bit}
use Rattle.bench_screen.proofs.look.Given as goal

abbrev pub invariant-loop-i : goal.invariant-loop-i
invariant-loop-i l =
    (length l.numbers ≡ lane_count)
    × (any_lane_fault l.fn.bench.variant (map lane_view (drop l.i l.fn.bench.slots)) ≡ any_lane_fault l.fn.bench.variant (map lane_view l.fn.bench.slots))
    × (0 < l.i → (variant_check l.fn.bench.variant).fault ≡ false)
    × Entries (lane_number l.mask (map lane_view l.fn.bench.slots)) l.i l.numbers
    × (l.shown ≡ from_bits (lane_bit l.mask (map lane_view l.fn.bench.slots)) l.i)
