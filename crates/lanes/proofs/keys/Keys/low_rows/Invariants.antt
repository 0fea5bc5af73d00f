use Prim.Native.Nat.{◌%◌, ◌^◌}
use Rattle.lanes.specs.Many.{block_key}
use Rattle.katan.specs.inner.Within.{Entries}
use Rattle.katan.specs.Sizes.{word_bits}
use Rattle.lanes.proofs.keys.Keys.low_rows.Given as goal

abbrev pub invariant-loop-i : goal.invariant-loop-i
invariant-loop-i l = Entries (λ j. block_key l.self.bytes.now j % 2 ^ word_bits) l.i l.row-items
