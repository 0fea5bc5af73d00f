use mathlib.Core.Path.{sym, ap, subst, ◌∙◌}
use Prim.Native.Nat.{ℕ, ◌^◌, ◌<◌, ◌≤◌}
use native.Mathlib.Nat.{lt_of_lt_of_le}
use native.Mathlib.Omega.{arith}
use borrow.Author.Rules.{rules}
use lib.ListN.{get_or, replicate, get_or-replicate}
use lib.Pow.{pow_mono}
use mir.Syntax.{w64}
use mir.Val.{Fits}
use Rattle.katan.specs.Variant.{row_of}
use Rattle.katan.specs.Sizes.{word_bits}
use Rattle.lanes.specs.Many.{block_key, one_block}
use Rattle.lanes.specs.inner.Words.{high_place}
use Rattle.lanes.proofs.Blocks.{lane_plain, lane_below}
use Rattle.lanes.proofs.KeyLanes.{high_lanes}
use Rattle.lanes.proofs.Call.result_rows.Goals as goal

pub with_high-requires : goal.with_high-requires
with_high-requires c =
    (omega arith, λ i q. lt_of_lt_of_le (c.requires.by_index i q) (pow_mono {i = c.args.self.now.n} {j = high_place} c.if-self-le-HIGH_PLACE.true))

pub rows_from_words-requires : goal.rows_from_words-requires
rows_from_words-requires c =
    let a = c.args in
    let w = c.with_high in
    let narrow = c.if-self-le-HIGH_PLACE.true in
    high_lanes (block_key a.self.now.keys.bytes.now) (λ i. get_or a.blocks.now i 0) _ w.result _
    (λ i q. lt_of_lt_of_le (c.requires.by_index i q) (pow_mono {i = a.self.now.n} {j = high_place} narrow)) w.ensures c.transpose-words.ensures

pub with_high-requires-else-self-le-HIGH_PLACE : goal.with_high-requires-else-self-le-HIGH_PLACE
with_high-requires-else-self-le-HIGH_PLACE c =
    (omega arith, λ i q. subst (λ (y : ℕ). y < 2 ^ high_place) (sym (get_or-replicate word_bits i 0 0 (omega (arith, c.args.self.now.keys.few)))) (omega arith))

pub rows_from_words-requires-else-self-le-HIGH_PLACE : goal.rows_from_words-requires-else-self-le-HIGH_PLACE
rows_from_words-requires-else-self-le-HIGH_PLACE c =
    let a = c.args in
    let w = c.with_high-else-self-le-HIGH_PLACE in
    high_lanes (block_key a.self.now.keys.bytes.now) (λ i. get_or (replicate {A = ℕ} word_bits 0) i 0) _ w.result _
    (λ i q. subst (λ (y : ℕ). y < 2 ^ high_place) (sym (get_or-replicate word_bits i 0 0 (omega (arith, c.args.self.now.keys.few)))) (omega arith)) w.ensures c.transpose-high.ensures

pub returns-then-self-le-HIGH_PLACE : goal.returns-then-self-le-HIGH_PLACE
returns-then-self-le-HIGH_PLACE c = λ j q.
    let a = c.args in
    let w = c.with_high in
    let narrow = c.if-self-le-HIGH_PLACE.true in
    let x = get_or a.blocks.now j 0 in
    let h : x < 2 ^ (row_of a.self.now.variant).n = subst (λ (m : ℕ). x < 2 ^ m) a.self.now.width (c.requires.by_index j q) in
    let g : (i : ℕ) → Fits w64 (get_or w.result i 0) = λ i. search (rules, w.type_inv) in
    c.rows_from_words.ensures j q
    ∙ ap (one_block a.self.now.direction a.self.now.variant (block_key a.self.now.keys.bytes.now j))
    (lane_below (row_of a.self.now.variant) w.result _ c.transpose-words.ensures (search (rules, w.type_inv)) (λ i l. (g i).fits) j (omega (arith, c.args.self.now.keys.few)) x h
    (block_key a.self.now.keys.bytes.now j) (subst (λ (m : ℕ). m ≤ high_place) a.self.now.width narrow) (w.ensures j q))

pub returns-else-self-le-HIGH_PLACE : goal.returns-else-self-le-HIGH_PLACE
returns-else-self-le-HIGH_PLACE c = λ j q.
    let a = c.args in
    let w = c.rows_of in
    let x = get_or a.blocks.now j 0 in
    let h : x < 2 ^ (row_of a.self.now.variant).n = subst (λ (m : ℕ). x < 2 ^ m) a.self.now.width (c.requires.by_index j q) in
    let g : (i : ℕ) → Fits w64 (get_or w.result i 0) = λ i. search (rules, w.type_inv) in
    c.rows_from_words-else-self-le-HIGH_PLACE.ensures j q
    ∙ ap (one_block a.self.now.direction a.self.now.variant (block_key a.self.now.keys.bytes.now j))
    (lane_plain (row_of a.self.now.variant) w.result _ c.transpose-words-else-self-le-HIGH_PLACE.ensures (search (rules, w.type_inv)) (λ i l. (g i).fits) j (omega (arith, c.args.self.now.keys.few)) x h (w.ensures j (omega arith)))
