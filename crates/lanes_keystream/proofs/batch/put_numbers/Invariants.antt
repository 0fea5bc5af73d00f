use Prim.Native.Nat.{◌+◌}
use Rattle.katan.specs.inner.Within.{Entries}
use Rattle.lanes_keystream.proofs.batch.put_numbers.Given as goal

abbrev pub invariant-loop-i : goal.invariant-loop-i
invariant-loop-i l = Entries (λ j. l.start + (l.first + j)) l.i l.out
