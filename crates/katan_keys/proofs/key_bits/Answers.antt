use mathlib.Core.Path.{ap, ◌∙◌}
use native.Mathlib.Omega.{arith}
use borrow.Author.Rules.{rules}
use Rattle.katan.specs.Bit.{bit}
use Rattle.katan.specs.Key.{key_length, key_bits}
use Rattle.katan.proofs.Fill.{full}
use Rattle.katan_keys.specs.Window.{window_number}
use Rattle.katan_keys.proofs.key_bits.Goals as goal

pub returns : goal.returns
returns c =
    let l = c.loop-i in
    let words = c.key_words-words in
    full (bit (window_number words.result)) key_length l.bit-items (search rules) (λ j q. l.invariant j (omega (arith, c.loop-i-test.false)))
    ∙ ap key_bits words.ensures
