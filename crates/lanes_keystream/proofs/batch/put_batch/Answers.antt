use mathlib.Core.Path.{◌≡◌, refl, sym, ap, subst, ◌∙◌}
use Prim.Native.Nat.{ℕ, ◌+◌, ◌<◌, ◌≤◌}
use native.Mathlib.Omega.{arith}
use lib.ListN.{length, get_or, replicate}
use lib.Seq.{length-take-le}
use Rattle.katan.specs.Sizes.{lane_count}
use Rattle.katan.specs.Variant.{width_of}
use Rattle.katan.specs.Machine.{encryption}
use Rattle.lanes.specs.Many.{block_key}
use Rattle.lanes_keystream.proofs.Counter.{some_bytes}
use Rattle.lanes_keystream.proofs.Batches.{numbers, numbers_long, number, numbers_small, one_done, bytes_known}
use Rattle.lanes_keystream.proofs.batch.put_batch.Goals as goal

pub returns : goal.returns
returns c =
    let a = c.args in
    let n = c.put_numbers in
    let new = c.many.new.out in
    let known = c.requires.variant_value in
    let few = c.requires.count_le_lane_count in
    let l : length n.new.out ≡ a.count = n.auto.out ∙ length-take-le a.count (replicate {A = ℕ} lane_count 0) few.0 in
    let e = λ (i : ℕ) (q : i < a.count). n.ensures i (omega (arith, l)) in
    bytes_known a.size a.count lane_count (λ i. get_or new i 0) (λ i. encryption a.variant (block_key a.keys.now i) (a.start + (a.first + i))) c.put_bytes.new.out
    (subst (λ (k : ℕ). 1 ≤ k) (sym known.1) (some_bytes a.variant))
    few.0
    (λ i q.
    one_done a.variant a.keys.now (numbers a.start a.first a.count (width_of a.variant) n.new.out l e) (replicate {A = ℕ} lane_count 0) known.0 (numbers_long a.start a.first a.count (width_of a.variant) n.new.out l e few.0) known.2 refl (numbers_small a.start a.first a.count (width_of a.variant) n.new.out l e few.1) new c.many.ensures.out_after i (omega arith)
    ∙ ap (encryption a.variant (block_key a.keys.now i)) (number a.start a.first a.count (width_of a.variant) n.new.out l e i q))
    c.put_bytes.ensures
