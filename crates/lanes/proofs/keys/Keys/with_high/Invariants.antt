use lib.ListN.{get_or}
use Rattle.katan.specs.inner.Within.{Entries}
use Rattle.lanes.specs.Many.{block_key}
use Rattle.lanes.specs.inner.Words.{with_high}
use Rattle.lanes.proofs.keys.Keys.with_high.Given as goal

abbrev pub invariant-loop-i : goal.invariant-loop-i
invariant-loop-i l = Entries (λ j. with_high (block_key l.self.bytes.now j) (get_or l.blocks j 0)) l.i l.row-items
