use mathlib.Core.Path.{◌≡◌, ◌∙◌}
use Prim.Native.Nat.{◌+◌, ◌-◌, ◌*◌}
use native.Mathlib.Omega.{arith}
use borrow.Author.Rules.{rules}
use borrow.Rule.Slice.PartMut.{same_len_mid}
use lib.ListN.{length}
use Rattle.katan.specs.Sizes.{key_bytes}
use Rattle.lanes_keystream.proofs.Places.{key_on}
use Rattle.lanes_keystream.proofs.batch.repeated.Goals as goal

pub loop-i-init : goal.loop-i-init
loop-i-init c = (search rules, λ j q. absurd (omega arith))

pub loop-i-preserved : goal.loop-i-preserved
loop-i-preserved c =
    let l = c.loop-i in
    let key = c.args.key.now in
    let at = key_bytes * l.i in
    let n : at + key_bytes - at ≡ key_bytes = omega arith in
    let m : length c.copy_from_slice.new.self ≡ key_bytes = omega arith in
    (same_len_mid at (at + key_bytes - at) l.keys c.copy_from_slice.new.self (omega arith) ∙ l.invariant.0, key_on key_bytes l.i (at + key_bytes - at) key l.keys c.copy_from_slice.new.self c.requires (omega arith) n c.copy_from_slice.ensures.after l.invariant.1)

pub returns : goal.returns
returns c = λ j q. c.loop-i.invariant.1 j (omega arith)
