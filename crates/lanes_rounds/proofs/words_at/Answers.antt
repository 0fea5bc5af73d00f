use mathlib.Core.Path.{◌≡◌, refl, sym, ap, subst, ◌∙◌}
use mathlib.Core.List.{List, ◌++◌}
use Prim.Native.Nat.{ℕ, ◌+◌, ◌-◌, ◌*◌, ◌<◌, ◌≤◌}
use native.Mathlib.Omega.{arith}
use lib.ListN.{length, get_or, take, drop, replicate, get_or-append, length-append, length-drop, length-replicate}
use lib.Seq.{length-take-le}
use Rattle.std.proofs.lemmas.List.{get_or-append_right, get_or-drop}
use Rattle.katan.specs.Sizes.{word_bits}
use Rattle.katan.specs.declared.Row.{Row}
use Rattle.lanes_rounds.specs.inner.Buffers.{Placed}
use Rattle.lanes_rounds.proofs.Stores.{zeros, part_long, part_read, part_at, part_before, part_after}
use Rattle.lanes_rounds.proofs.Histories.{few, placed_at}
use Rattle.lanes_rounds.proofs.words_at.Goals as goal

-- the words of the two registers, and zeros above them
module _ (n len1 len2 : ℕ) (both : len1 + len2 ≡ n) (small : n ≤ word_bits) (r1 r2 : List ℕ) (m1 : length r1 ≡ len1) (m2 : length r2 ≡ len2) where
  abbrev first : List ℕ
  first = r2 ++ drop len2 (replicate word_bits 0)

  abbrev whole : List ℕ
  whole = take len2 first ++ (r1 ++ drop (n - len2) (drop len2 first))

  first_long : len2 ≤ length first
  first_long = omega (arith, length-append r2 (drop len2 (replicate {A = ℕ} word_bits 0)), m2)

  second_word : (i : ℕ) → i < len2 → get_or whole i 0 ≡ get_or r2 i 0
  second_word i q = part_before len2 first r1 (drop (n - len2) (drop len2 first)) first_long i q ∙ get_or-append r2 _ 0 i (omega (arith, m2))

  first_word : (i : ℕ) → i < len1 → get_or whole (len2 + i) 0 ≡ get_or r1 i 0
  first_word i q = part_at len2 first r1 (drop (n - len2) (drop len2 first)) first_long i (len2 + i) (omega (arith, m1)) refl

  clear : (i : ℕ) → n ≤ i → get_or whole i 0 ≡ 0
  clear i q =
      let k = i - n in
      let e : i ≡ len2 + length r1 + k = omega (arith, m1, both) in
      part_after len2 first r1 (drop (n - len2) (drop len2 first)) first_long k i e
      ∙ get_or-drop (n - len2) (drop len2 first) k 0
      ∙ get_or-drop len2 first (n - len2 + k) 0
      ∙ get_or-append_right r2 (drop len2 (replicate word_bits 0)) len2 (len2 + (n - len2 + k)) 0 m2 (omega arith)
      ∙ get_or-drop len2 (replicate word_bits 0) (len2 + (n - len2 + k) - len2) 0
      ∙ zeros word_bits (len2 + (len2 + (n - len2 + k) - len2))

pub returns : goal.returns
returns g c =
    let k = c.row-v.ensures in
    let v = c.row-v.result in
    let t = c.first_clock-t.result.0 in
    let a = c.args.a.now in
    let b = c.args.b.now in
    let one = c.put_reversed-2 in
    let two = c.put_reversed in
    let f = few v.clocks c.args.at.0 c.requires.1 in
    let ha : t + v.len1 ≤ length a = omega arith in
    let hb : t + v.len2 ≤ length b = omega arith in
    let w1 : length (take (t + v.len1 - t) (drop t a)) ≡ v.len1 = part_long t v.len1 (t + v.len1 - t) a (omega arith) ha in
    let w2 : length (take (t + v.len2 - t) (drop t b)) ≡ v.len2 = part_long t v.len2 (t + v.len2 - t) b (omega arith) hb in
    let both : v.len1 + v.len2 ≡ v.n = omega arith in
    let none = replicate {A = ℕ} word_bits 0 in
    let m2 : length two.new.out ≡ v.len2 = two.auto.out ∙ length-take-le v.len2 none (omega (arith, length-replicate {A = ℕ} word_bits 0)) in
    let m1 : length one.new.out ≡ v.len1
    = one.auto.out ∙ part_long v.len2 v.len1 (v.n - v.len2) (two.new.out ++ drop v.len2 none) (omega arith)
    (omega (arith, length-append two.new.out (drop v.len2 none), length-drop v.len2 none, length-replicate {A = ℕ} word_bits 0, m2)) in
    let r = whole v.n v.len1 v.len2 both (omega arith) one.new.out two.new.out m1 m2 in
    record {
      placed = subst (λ (y : Row). Placed y (y.clocks * c.args.at.0) r a b) k.same
          (placed_at v _ _ r a b c.first_clock-t.ensures
          (record {
            placed2 = λ i q.
                let e : t + (length (take (t + v.len2 - t) (drop t b)) - 1 - i) ≡ t + v.y1 - i = omega (arith, w2) in
                sym (second_word v.n v.len1 v.len2 both (omega arith) one.new.out two.new.out m1 m2 i q
                ∙ two.ensures i (omega (arith, w2))
                ∙ part_read t (t + v.len2 - t) _ b (omega (arith, w2))
                ∙ ap (λ (j : ℕ). get_or b j 0) e);
            placed1 = λ i q.
                let e : t + (length (take (t + v.len1 - t) (drop t a)) - 1 - i) ≡ t + v.x1 - i = omega (arith, w1) in
                sym (first_word v.n v.len1 v.len2 both (omega arith) one.new.out two.new.out m1 m2 i q
                ∙ one.ensures i (omega (arith, w1))
                ∙ part_read t (t + v.len1 - t) _ a (omega (arith, w1))
                ∙ ap (λ (j : ℕ). get_or a j 0) e);
          }));
      by_index = λ i q. clear v.n v.len1 v.len2 both (omega arith) one.new.out two.new.out m1 m2 i (omega arith);
    }
