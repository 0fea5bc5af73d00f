use mathlib.Core.Path.{◌≡◌, refl, sym, ap, subst, ◌∙◌}
use mathlib.Core.List.{List}
use Prim.Native.Nat.{ℕ, min, ◌+◌, ◌-◌, ◌*◌, ◌/◌, ◌%◌, ◌<◌, ◌≤◌}
use native.Mathlib.Omega.{arith}
use borrow.Author.Rules.{rules}
use lib.ListN.{length}
use Rattle.katan.specs.Bit.{number_in}
use Rattle.katan.specs.Machine.{encryption}
use Rattle.katan.specs.Sizes.{lane_count}
use Rattle.lanes.specs.Many.{block_key}
use Rattle.lanes_keystream.specs.Stream.{block_count}
use Rattle.lanes_keystream.proofs.Batches.{bytes_known}
use Rattle.lanes_keystream.proofs.Counter.{some_bytes}
use Rattle.lanes_keystream.proofs.Message.{Combined, repeated_key, turn, combined_more, all_combined}
use Rattle.lanes_keystream.proofs.batch.combine_all.Goals as goal

-- each batch has a block, and together they have all
begins : (blocks batch end : ℕ) → end ≡ blocks / lane_count + min 1 (blocks % lane_count) → batch < end → lane_count * batch < blocks
begins blocks batch end e q = omega arith

ended : (blocks batch end : ℕ) → end ≡ blocks / lane_count + min 1 (blocks % lane_count) → end ≤ batch → min (lane_count * batch) blocks ≡ blocks
ended blocks batch end e q = omega arith

goes_on : (blocks batch count : ℕ) → lane_count * batch < blocks → count ≡ min lane_count (blocks - lane_count * batch) → lane_count * batch + count ≡ min (lane_count * (batch + 1)) blocks
goes_on blocks batch count h e = omega arith

pub loop-batch-init : goal.loop-batch-init
loop-batch-init c =
    let a = c.args in
    let e : 0 ≡ min 0 a.blocks = omega arith in
    (c.requires.key_len.2, refl, subst (λ (n : ℕ). Combined a.variant (number_in a.key.now) a.start a.message.now n a.out.now) e (λ j q p. absurd (omega arith)))

pub put_batch-requires : goal.put_batch-requires
put_batch-requires c =
    let w = c.min-count.ensures in
    let b = lane_count * c.loop-batch.batch in
    let a = c.args in
    let t = turn a.variant a.size a.blocks b c.min-count.result (length a.message.now) c.requires.variant_value.1 c.requires.variant_value.2 c.requires.key_len.1 (begins _ _ _ c.div_ceil-batch-end.ensures c.loop-batch-test.true) w in
    record { variant_value = (c.requires.variant_value.0, c.requires.variant_value.1, search rules, c.loop-batch.invariant.1); count_le_lane_count = (omega arith, omega (arith, c.requires.variant_value.3), t.early) }

pub overflow_mul-at : goal.overflow_mul-at
overflow_mul-at c =
    let w = c.min-count.ensures in
    let b = lane_count * c.loop-batch.batch in
    let a = c.args in
    let t = turn a.variant a.size a.blocks b c.min-count.result (length a.message.now) c.requires.variant_value.1 c.requires.variant_value.2 c.requires.key_len.1 (begins _ _ _ c.div_ceil-batch-end.ensures c.loop-batch-test.true) w in
    record { fits = omega (arith, t.inside, t.fits, c.requires.key_len.1) }

pub overflow_mul-size : goal.overflow_mul-size
overflow_mul-size c =
    let w = c.min-count.ensures in
    let b = lane_count * c.loop-batch.batch in
    let a = c.args in
    let t = turn a.variant a.size a.blocks b c.min-count.result (length a.message.now) c.requires.variant_value.1 c.requires.variant_value.2 c.requires.key_len.1 (begins _ _ _ c.div_ceil-batch-end.ensures c.loop-batch-test.true) w in
    record { fits = omega (arith, t.inside, t.fits, c.requires.key_len.1) }

pub overflow_add-at : goal.overflow_add-at
overflow_add-at c =
    let w = c.min-count.ensures in
    let b = lane_count * c.loop-batch.batch in
    let a = c.args in
    let t = turn a.variant a.size a.blocks b c.min-count.result (length a.message.now) c.requires.variant_value.1 c.requires.variant_value.2 c.requires.key_len.1 (begins _ _ _ c.div_ceil-batch-end.ensures c.loop-batch-test.true) w in
    record { fits = omega (arith, t.inside, t.fits, c.requires.key_len.1) }

pub combine-requires : goal.combine-requires
combine-requires c =
    let w = c.min-count.ensures in
    let b = lane_count * c.loop-batch.batch in
    let a = c.args in
    let t = turn a.variant a.size a.blocks b c.min-count.result (length a.message.now) c.requires.variant_value.1 c.requires.variant_value.2 c.requires.key_len.1 (begins _ _ _ c.div_ceil-batch-end.ensures c.loop-batch-test.true) w in
    let end = c.min-end.ensures in
    (omega (arith, end, t.inside), omega (arith, end), omega (arith, end, c.loop-batch.invariant.0), omega (arith, end, t.fits))

pub loop-batch-preserved : goal.loop-batch-preserved
loop-batch-preserved c =
    let w = c.min-count.ensures in
    let b = lane_count * c.loop-batch.batch in
    let a = c.args in
    let t = turn a.variant a.size a.blocks b c.min-count.result (length a.message.now) c.requires.variant_value.1 c.requires.variant_value.2 c.requires.key_len.1 (begins _ _ _ c.div_ceil-batch-end.ensures c.loop-batch-test.true) w in
    let n = c.combine in
    let end = c.min-end in
    let p = c.put_batch in
    let count = c.min-count.result in
    let l = c.loop-batch in
    let k = c.repeated-keys in
    let h = begins _ _ _ c.div_ceil-batch-end.ensures c.loop-batch-test.true in
    let first : min b a.blocks ≡ b = omega arith in
    let one = repeated_key a.key.now k.result c.requires.key_len.0 (search (rules, k.type_inv)) k.ensures in
    let known = bytes_known a.size count count (λ i. encryption a.variant (block_key k.result i) (a.start + (b + i)))
    (λ i. encryption a.variant (number_in a.key.now) (a.start + (b + i))) p.new.out
    (subst (λ (m : ℕ). 1 ≤ m) (sym c.requires.variant_value.1) (some_bytes a.variant)) (omega arith)
    (λ i q. ap (λ (x : ℕ). encryption a.variant x (a.start + (b + i))) (one i (omega (arith, w)))) p.ensures in
    let done = λ (m : ℕ) (out : List ℕ). Combined a.variant (number_in a.key.now) a.start a.message.now m out in (
      omega (arith, l.invariant.0),
      omega (arith, l.invariant.1),
      subst (λ (m : ℕ). done m n.new.out) (goes_on a.blocks l.batch count h w)
          (combined_more a.variant (number_in a.key.now) a.start a.message.now a.size c.requires.variant_value.1 b count end.result p.new.out l.out n.new.out
          n.ensures known (λ j x y. omega (arith, end.ensures)) (subst (λ (m : ℕ). done m l.out) first l.invariant.2)),
    )

pub returns : goal.returns
returns c =
    let l = c.loop-batch in
    let a = c.args in
    let all = ended a.blocks l.batch _ c.div_ceil-batch-end.ensures (omega arith) in
    let e : min (lane_count * l.batch) a.blocks ≡ block_count a.variant (length a.message.now) = all ∙ c.requires.variant_value.2 in
    all_combined a.variant (number_in a.key.now) a.start a.message.now (min (lane_count * l.batch) a.blocks) l.out e l.invariant.0 l.invariant.2
