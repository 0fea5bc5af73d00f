use mathlib.Core.Path.{◌≡◌}
use Prim.Native.Nat.{ℕ, ◌*◌}
use lib.ListN.{length}
use Rattle.katan.specs.Counter.{rounds}
use Rattle.katan.specs.Key.{key_length}
use Rattle.katan.specs.inner.Within.{Entries}
use Rattle.lanes_keys.specs.inner.Keeps.{Keeps}
use Rattle.lanes_keys.proofs.extend.Given as goal

abbrev pub invariant-loop-i : goal.invariant-loop-i
invariant-loop-i l = (length l.words ≡ 2 * rounds) × ((f : ℕ → ℕ) → Entries f (key_length * l.s) l.initial.words → Keeps l.s (key_length * l.s) l.to f → Entries f l.i l.words)
