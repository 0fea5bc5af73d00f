use mathlib.Core.Path.{◌≡◌}
use Prim.Native.Nat.{◌*◌, ◌%◌}
use lib.ListN.{length, get_or}
use Rattle.katan.specs.Sizes.{lane_count, key_bytes}
use Rattle.katan.specs.inner.Within.{Entries}
use Rattle.lanes_keystream.proofs.batch.repeated.Given as goal

abbrev pub invariant-loop-i : goal.invariant-loop-i
invariant-loop-i l = (length l.keys ≡ key_bytes * lane_count) × Entries (λ j. get_or l.key (j % key_bytes) 0) (key_bytes * l.i) l.keys
