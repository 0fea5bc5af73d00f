use mathlib.Core.Path.{◌≡◌}
use Prim.Native.Nat.{◌*◌}
use lib.ListN.{length, get_or}
use Rattle.katan.specs.inner.Within.{Entries}
use Rattle.lanes_keystream.specs.inner.Batch.{batch_length, byte_of}
use Rattle.lanes_keystream.proofs.batch.put_bytes.Given as goal

abbrev pub invariant-loop-i : goal.invariant-loop-i
invariant-loop-i l = (length l.out ≡ batch_length) × Entries (byte_of l.size (λ j. get_or l.blocks j 0)) (l.size * l.i) l.out
