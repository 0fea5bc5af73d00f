use mathlib.Core.Path.{◌≡◌}
use Prim.Native.Nat.{min, ◌*◌}
use lib.ListN.{length}
use Rattle.katan.specs.Bit.{number_in}
use Rattle.katan.specs.Sizes.{lane_count}
use Rattle.lanes_keystream.specs.inner.Batch.{batch_length}
use Rattle.lanes_keystream.proofs.Message.{Combined}
use Rattle.lanes_keystream.proofs.batch.combine_all.Given as goal

abbrev pub invariant-loop-batch : goal.invariant-loop-batch
invariant-loop-batch l =
    (length l.out ≡ length l.message) × (length l.stream ≡ batch_length) × Combined l.variant (number_in l.key) l.start l.message (min (lane_count * l.batch) l.blocks) l.out
