use mathlib.Core.Path.{◌≡◌}
use Prim.Native.Nat.{◌*◌}
use lib.ListN.{length, get_or}
use Rattle.katan.specs.Counter.{rounds}
use Rattle.katan.specs.inner.Within.{Entries}
use Rattle.lanes_keys.proofs.ktantan_words.Given as goal

abbrev pub invariant-loop-i : goal.invariant-loop-i
invariant-loop-i l = (length l.words ≡ 2 * rounds) × Entries (λ j. get_or l.key (get_or l.number-items j 0) 0) l.i l.words
