use mathlib.Core.Path.{◌≡◌, subst}
use Prim.Native.Nat.{ℕ, suc, ◌*◌}
use native.Mathlib.Omega.{arith}
use Rattle.lanes_rounds.specs.inner.Buffers.{KeptBelow, untouched_below}
use Rattle.lanes_rounds.proofs.Histories.{few, told_sound, begun_more, history_one, forward_then}
use Rattle.lanes_rounds.proofs.rounds.ForthWay.round.Goals as goal

pub loop-i-init : goal.loop-i-init
loop-i-init g c = record { room = c.requires.0; clocks = λ k q. absurd (omega arith); kept = untouched_below _ _ _ _ }

pub clock_at-requires : goal.clock_at-requires
clock_at-requires g c =
    let f = few c.row-v.result.clocks (suc c.args.done) c.requires.1 in
    (omega arith, omega arith)

pub loop-i-preserved : goal.loop-i-preserved
loop-i-preserved g c =
    let f = few c.row-v.result.clocks (suc c.args.done) c.requires.1 in
    let l = c.loop-i in
    let k = c.clock_at.ensures in
    begun_more _ (told_sound c.row-v.ensures) _ _ _ _ _ _ _ _ l.i (omega arith) l.invariant k.a_after k.b_after

pub returns-clause-room : goal.returns-clause-room
returns-clause-room g c = c.loop-i.invariant.room

pub returns-clause-more : goal.returns-clause-more
returns-clause-more g c = λ a₀ b₀ f.
    let w = g.W.Width.row in
    let k = c.row-v.ensures in
    let l = c.loop-i.invariant in
    let first = c.first_clock-first in
    let u = c.input_at-u in
    let at : first.result.0 ≡ w.clocks * c.args.done = subst (λ (n : ℕ). first.result.0 ≡ n * c.args.done) k.clocks_is first.ensures in
    forward_then (told_sound k) (omega arith) (omega arith) f
    (record {
      room = l.room;
      made = history_one w c.args.irs.now c.args.keys.now _ _ c.args.done first.result.0 c.row-v.result.clocks at k.clocks_is u.result u.ensures (λ i q. l.clocks i (omega arith));
      kept = subst (λ (n : ℕ). KeptBelow w n c.args.a.now c.args.b.now c.loop-i.a c.loop-i.b) at l.kept;
    })
