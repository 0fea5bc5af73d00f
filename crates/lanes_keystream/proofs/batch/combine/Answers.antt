use mathlib.Core.Path.{◌≡◌, refl, sym, ◌∙◌}
use native.Mathlib.Omega.{arith}
use lib.ListN.{length-set}
use Rattle.lanes_keystream.proofs.Parts.{written_more}
use Rattle.lanes_keystream.proofs.batch.combine.Goals as goal

pub loop-j-init : goal.loop-j-init
loop-j-init c = (refl, omega arith, c.requires.0, record { before = λ i q. refl; there = λ i p q. absurd (omega arith) })

pub loop-j-preserved : goal.loop-j-preserved
loop-j-preserved c =
    let l = c.loop-j in
    let a = c.args in
    (length-set l.out l.j _ ∙ l.invariant.0, omega arith, omega arith, written_more a.at l.j _ a.out.now l.out _ l.invariant.1 (omega arith) l.invariant.3 refl)

pub shape_of-out : goal.shape_of-out
shape_of-out c = c.loop-j.invariant.0

pub returns : goal.returns
returns c =
    let l = c.loop-j in
    let e : l.j ≡ c.args.end = omega arith in
    rw (sym e) l.invariant.3
