use mathlib.Core.Path.{sym, ap₂, ◌∙◌}
use Prim.Native.Nat.{◌-◌, ◌*◌}
use native.Mathlib.Omega.{arith}
use lib.ListN.{length-set, get_or}
use Rattle.katan.specs.Bit.{xor}
use Rattle.katan.specs.Key.{key_length}
use Rattle.katan.proofs.Fill.{filled}
use Rattle.lanes_keys.proofs.extend.Goals as goal

pub loop-i-init : goal.loop-i-init
loop-i-init c = (c.requires.4, λ f h k. h)

pub loop-i-preserved : goal.loop-i-preserved
loop-i-preserved c =
    let l = c.loop-i in
    let a = c.args in
    let s = a.s in
    let x = xor (xor (xor (get_or l.words (l.i - key_length * s) 0) (get_or l.words (l.i - 61 * s) 0)) (get_or l.words (l.i - 50 * s) 0)) (get_or l.words (l.i - 13 * s) 0) in (
      length-set l.words l.i _ ∙ l.invariant.0,
      λ f h k.
          let made = l.invariant.1 f h k in
          filled f l.words l.i x (omega arith) made
          (ap₂ xor (ap₂ xor (ap₂ xor (made (l.i - key_length * s) (omega arith)) (made (l.i - 61 * s) (omega arith))) (made (l.i - 50 * s) (omega arith))) (made (l.i - 13 * s) (omega arith))
          ∙ sym (k l.i (omega arith) (omega arith))),
    )

pub returns : goal.returns
returns c =
    let l = c.loop-i in
    record { words_len = l.invariant.0; by_index = λ f h k j q. l.invariant.1 f h k j (omega arith) }
