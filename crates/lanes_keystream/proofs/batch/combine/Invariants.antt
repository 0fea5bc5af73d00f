use mathlib.Core.Path.{◌≡◌}
use Prim.Native.Nat.{◌-◌, ◌≤◌}
use lib.ListN.{length, get_or}
use Rattle.katan.specs.Bit.{xor}
use Rattle.lanes_keystream.specs.inner.Batch.{Written}
use Rattle.lanes_keystream.proofs.batch.combine.Given as goal

abbrev pub invariant-loop-j : goal.invariant-loop-j
invariant-loop-j l =
    (length l.out ≡ length l.initial.out) × (l.at ≤ l.j) × (l.j ≤ l.end) × Written l.at l.j (λ i. xor (get_or l.message i 0) (get_or l.stream (i - l.at) 0)) l.initial.out l.out

abbrev pub decreases-loop-j : goal.decreases-loop-j
decreases-loop-j l = l.end - l.j
