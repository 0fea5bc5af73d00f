use Rattle.katan.specs.Bit.{bit}
use Rattle.katan.specs.inner.Within.{Entries}
use Rattle.katan_keys.specs.Window.{window_number}
use Rattle.katan_keys.proofs.key_bits.Given as goal

abbrev pub invariant-loop-i : goal.invariant-loop-i
invariant-loop-i l = Entries (bit (window_number l.words)) l.i l.bit-items
