use Rattle.std.specs.Prelude.{Option, None}
use mathlib.Core.Path.{◌≡◌, ◌∙◌}
use mathlib.Core.List.{List, [], ◌++◌, append-nil}
use Prim.Native.Nat.{ℕ, ◌+◌, ◌/◌, ◌%◌, ◌^◌, ◌≤◌, ◌<◌}
use native.Mathlib.Nat.{div-one}
use native.Mathlib.Omega.{arith}
use lib.ListN.{length, get_or, set, take, drop, length-set, drop_of_length-le}
use lib.Pow.{shr-shr}
use lib.Seq.{take_all}
use borrow.Author.Rules.{rules}
use borrow.Author.Tests.{eq-eqb, ne_eqb}
use Rattle.katan.specs.Sizes.{lane_count}
use Rattle.bench.specs.declared.Loaded.{Loaded}
use Rattle.bench.specs.Steps.{step_slots, moved_slots}
use Rattle.bench.specs.inner.Slots.{step_slot, moved_slot}
use Rattle.bench.proofs.Loops.{steps_on, total_on}
use Rattle.bench_moves.specs.Moves.{step_lane, move_lane}
use Rattle.bench_moves.proofs.step_lanes.Goals as goal
use Rattle.bench_moves.proofs.step_lanes.Goals.{then-mask-i-eq1, else-mask-i-eq1}

-- one turn: the lane at place i becomes x, and moves n
module _ (ss : List (Option Loaded)) (i m : ℕ) (x : Option Loaded) (h : i < length ss) where
  rest : m / 2 ^ i / 2 ≡ m / 2 ^ (i + 1)
  rest = shr-shr m i 1

  steps : (f : Option Loaded → Option Loaded) → x ≡ step_slot f (m / 2 ^ i % 2) (get_or ss i None)
      → take (i + 1) (set ss i x) ++ step_slots f (m / 2 ^ (i + 1)) (drop (i + 1) (set ss i x)) ≡ take i ss ++ step_slots f (m / 2 ^ i) (drop i ss)
  steps f e = rw (← rest) (steps_on ss i (m / 2 ^ i) x h f e)

  total : (f : Option Loaded → ℕ) (n : ℕ) → n ≡ moved_slot f (m / 2 ^ i % 2) (get_or ss i None)
      → n + moved_slots f (m / 2 ^ (i + 1)) (drop (i + 1) (set ss i x)) ≡ moved_slots f (m / 2 ^ i) (drop i ss)
  total f n e = rw (← rest) (total_on ss i (m / 2 ^ i) x h f n e)

pub loop-i-init : goal.loop-i-init
loop-i-init c =
    let len : length c.args.bench.slots ≡ lane_count = search rules in
    ((len, omega arith), simp div-one, simp div-one (omega arith))

pub loop-i-preserved : goal.loop-i-preserved
loop-i-preserved c =
    let l = c.loop-i in
    let ss = l.lane-items in
    let h : l.i < length ss = omega arith in
    let v = c.args.bench.variant in
    let m = c.args.motion in
    elim c.if-mask-i-eq1.branch [
      | then-mask-i-eq1 w ↦
          let e = eq-eqb _ _ w.if-mask-i-eq1.true in
          let x = w.lane_step-after.result in
          let s = steps ss l.i c.args.mask x.lane h (step_lane v m) (rw e w.lane_step-after.ensures.0) in
          let t = total ss l.i c.args.mask x.lane h (move_lane v m) x.moved (rw e w.lane_step-after.ensures.1) in
          ((rw w.lane-items-is (simp length-set l.invariant.0.0), omega arith), rw w.lane-items-is (s ∙ l.invariant.1), rw (w.lane-items-is, w.total-is) (omega (arith, t, l.invariant.2, w.from-total.ensures)))
      | else-mask-i-eq1 w ↦
          let e = ne_eqb _ _ w.if-mask-i-eq1.false in
          let x = get_or ss l.i None in
          let s = steps ss l.i c.args.mask x h (step_lane v m) (rw e) in
          let t = total ss l.i c.args.mask x h (move_lane v m) 0 (rw e) in
          ((rw w.lane-items-is (simp length-set l.invariant.0.0), omega arith), rw w.lane-items-is (s ∙ l.invariant.1), rw (w.lane-items-is, w.total-is) (omega (arith, t, l.invariant.2)))
    ]

pub returns : goal.returns
unfolding step_slots moved_slots
returns c =
    let ss = c.loop-i.lane-items in
    let i = c.loop-i.i in
    let le : length ss ≤ i = omega arith in
    let e : drop i ss ≡ [] = drop_of_length-le ss le in
    let a = c.args in
    let s : ss ≡ step_slots (step_lane a.bench.variant a.motion) a.mask a.bench.slots = simp (e, take_all i ss le, append-nil) at c.loop-i.invariant.1 in
    let t : c.loop-i.total ≡ moved_slots (move_lane a.bench.variant a.motion) a.mask a.bench.slots = omega (arith, simp e at c.loop-i.invariant.2) in
    (rw s, t)
