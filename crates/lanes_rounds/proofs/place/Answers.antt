use mathlib.Core.Path.{◌≡◌, subst, ◌∙◌}
use mathlib.Core.List.{◌++◌}
use Prim.Native.Nat.{◌+◌, ◌-◌, ◌*◌, ◌≤◌}
use native.Mathlib.Omega.{arith}
use lib.ListN.{length, take, drop}
use lib.Seq.{length-take-le}
use Rattle.std.proofs.lemmas.List.{get_or-take}
use Rattle.katan.specs.declared.Row.{Row}
use Rattle.lanes_rounds.specs.inner.Buffers.{Placed}
use Rattle.lanes_rounds.proofs.Stores.{part_long, part_read, reversed_at, part_at}
use Rattle.lanes_rounds.proofs.Histories.{few, placed_at}
use Rattle.lanes_rounds.proofs.place.Goals as goal

pub returns-clause-placed : goal.returns-clause-placed
returns-clause-placed g c =
    let v = c.row-v.result in
    let t = c.first_clock-t.result.0 in
    let words = c.args.words.now in
    let a = c.args.a.now in
    let b = c.args.b.now in
    let one = c.put_reversed-2 in
    let two = c.put_reversed in
    let f = few v.clocks c.args.at.0 c.requires.1 in
    let ha : t + v.len1 ≤ length a = omega arith in
    let hb : t + v.len2 ≤ length b = omega arith in
    let w1 : length (take (v.n - v.len2) (drop v.len2 words)) ≡ v.len1 = part_long v.len2 v.len1 (v.n - v.len2) words (omega arith) (omega arith) in
    let w2 : length (take v.len2 words) ≡ v.len2 = length-take-le v.len2 words (omega arith) in
    let m1 : length one.new.out ≡ v.len1 = one.auto.out ∙ part_long t v.len1 (t + v.len1 - t) a (omega arith) ha in
    let m2 : length two.new.out ≡ v.len2 = two.auto.out ∙ part_long t v.len2 (t + v.len2 - t) b (omega arith) hb in
    subst
    (λ (y : Row). Placed y (y.clocks * c.args.at.0) words (take t a ++ (one.new.out ++ drop (t + v.len1 - t) (drop t a))) (take t b ++ (two.new.out ++ drop (t + v.len2 - t) (drop t b)))) c.row-v.ensures.same
    (placed_at v _ _ words _ _ c.first_clock-t.ensures
    (record {
      placed2 = λ i q.
          part_at t b two.new.out _ (omega arith) (v.len2 - 1 - i) (t + v.y1 - i) (omega (arith, m2)) (omega arith)
          ∙ reversed_at (take v.len2 words) two.new.out v.len2 i w2 two.ensures q
          ∙ get_or-take v.len2 words i 0 q;
      placed1 = λ i q.
          part_at t a one.new.out _ (omega arith) (v.len1 - 1 - i) (t + v.x1 - i) (omega (arith, m1)) (omega arith)
          ∙ reversed_at (take (v.n - v.len2) (drop v.len2 words)) one.new.out v.len1 i w1 one.ensures q
          ∙ part_read v.len2 (v.n - v.len2) i words (omega arith);
    }))
