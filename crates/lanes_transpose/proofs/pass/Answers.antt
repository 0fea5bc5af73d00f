use mathlib.Core.Path.{ap₂, ◌∙◌}
use Prim.Native.Nat.{ℕ}
use native.Mathlib.Omega.{arith}
use lib.ListN.{length-replicate}
use Rattle.lanes_transpose.specs.inner.Stage.{swapped_low, swapped_high}
use Rattle.lanes_transpose.proofs.Passes.{four_stored, passed_none, passed_more}
use Rattle.lanes_transpose.proofs.pass.Goals as goal

pub loop-i-init : goal.loop-i-init
loop-i-init c = (length-replicate {A = ℕ} 64 0, passed_none _ _ _ _ _ _)

pub loop-i-preserved : goal.loop-i-preserved
loop-i-preserved c =
    let s = c.args.second in
    let l = c.loop-i in
    let e = c.swapped-a-in-loop-i in
    let f = c.swapped-c in
    let ac = c.swapped-a.ensures in
    let bd = c.swapped-b.ensures in (
      four_stored l.next l.i e.result.0 e.result.1 f.result.0 f.result.1 l.invariant.0,
      passed_more _ _ s.shift s.mask _ l.next l.i e.result.0 e.result.1 f.result.0 f.result.1 (omega arith) l.invariant.0 l.invariant.1
          (e.ensures.low_row ∙ ap₂ (swapped_low s.shift s.mask) ac.low_row bd.low_row)
          (e.ensures.high_row ∙ ap₂ (swapped_high s.shift s.mask) ac.low_row bd.low_row)
          (f.ensures.low_row ∙ ap₂ (swapped_low s.shift s.mask) ac.high_row bd.high_row)
          (f.ensures.high_row ∙ ap₂ (swapped_high s.shift s.mask) ac.high_row bd.high_row),
    )

pub returns : goal.returns
returns c =
    let s = c.loop-i.invariant.1 in
    record { at0 = λ i h. s.at0 i (omega arith); at1 = λ i h. s.at1 i (omega arith); at2 = λ i h. s.at2 i (omega arith); at3 = λ i h. s.at3 i (omega arith) }
