use mathlib.Core.Path.{◌≡◌, sym, ap, ◌∙◌}
use Prim.Native.Nat.{◌+◌, ◌-◌}
use native.Mathlib.Omega.{arith}
use Rattle.katan.specs.Bit.{bit}
use Rattle.katan.proofs.Bits.{bit_below, bit_above}
use Rattle.katan_keys.specs.Window.{window_number}
use borrow.Author.Rules.{rules}
use Rattle.katan_keys.proofs.bit_at.Goals as goal

pub returns-then-i-lt-WORD_BITS : goal.returns-then-i-lt-WORD_BITS
returns-then-i-lt-WORD_BITS c =
    let a = c.args in
    c.bit_of.ensures ∙ sym (bit_below 64 a.w.high (search rules) a.i c.if-i-lt-WORD_BITS.true)

pub returns-else-i-lt-WORD_BITS : goal.returns-else-i-lt-WORD_BITS
returns-else-i-lt-WORD_BITS c =
    let a = c.args in
    let e : 64 + (a.i - 64) ≡ a.i = omega arith in
    c.bit_of-else-i-lt-WORD_BITS.ensures ∙ sym (bit_above 64 a.w.high (search rules) (a.i - 64)) ∙ ap (bit (window_number a.w)) e
