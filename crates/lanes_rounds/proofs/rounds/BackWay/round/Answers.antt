use mathlib.Core.Path.{◌≡◌, subst}
use Prim.Native.Nat.{ℕ, suc, ◌+◌, ◌-◌, ◌*◌}
use native.Mathlib.Omega.{arith}
use Rattle.katan.specs.Counter.{rounds}
use Rattle.lanes_rounds.specs.inner.Buffers.{untouched_from}
use Rattle.lanes_rounds.proofs.Histories.{few, told_sound, left_more, history_one, kept_from_at, backward_then, backward_as}
use Rattle.lanes_rounds.proofs.rounds.BackWay.round.Goals as goal

pub loop-i-init : goal.loop-i-init
loop-i-init g c = record { room = c.requires.0; clocks = λ k z q. absurd (omega arith); kept = untouched_from _ _ _ }

pub unclock_at-requires : goal.unclock_at-requires
unclock_at-requires g c =
    let f = few c.row-v.result.clocks (suc (253 - c.args.done)) (omega arith) in
    let m = c.loop-i.invariant.room in
    (omega arith, omega arith)

pub loop-i-preserved : goal.loop-i-preserved
loop-i-preserved g c =
    let f = few c.row-v.result.clocks (suc (253 - c.args.done)) (omega arith) in
    let l = c.loop-i in
    let k = c.unclock_at.ensures in
    let first = c.first_clock-first.result.0 in
    left_more _ (told_sound c.row-v.ensures) _ _ _ _ _ _ _ _ c.row-v.result.clocks (first + l.i) (first + (l.i - 1)) (omega arith) (omega arith) (omega arith) (omega arith) l.invariant k.a_after k.b_after

pub returns-clause-room : goal.returns-clause-room
returns-clause-room g c = c.loop-i.invariant.room

pub returns-clause-more : goal.returns-clause-more
returns-clause-more g c = λ a₀ b₀ f.
    let w = g.W.Width.row in
    let k = c.row-v.ensures in
    let l = c.loop-i.invariant in
    let first = c.first_clock-first in
    let u = c.input_at-u in
    let p = 253 - c.args.done in
    let n = c.row-v.result.clocks in
    let at : first.result.0 ≡ w.clocks * p = subst (λ (m : ℕ). first.result.0 ≡ m * p) k.clocks_is first.ensures in
    backward_then (told_sound k) (omega arith) (omega arith) f
    (backward_as p (p + 1) (rounds - (c.args.done + 1)) (rounds - c.args.done) (omega arith) (omega arith)
    (record {
      room = l.room;
      made = history_one w c.args.irs.now c.args.keys.now _ _ p first.result.0 n at k.clocks_is u.result u.ensures (λ i q. l.clocks i (omega arith) q);
      kept = kept_from_at (first.result.0 + n) (w.clocks * (p + 1)) (omega arith) l.kept;
    }))
