-- The fours of rows that a pass has made so far; and a pass is two stages, the other way.
-- Assumes nothing.
use mathlib.Core.Path.{◌≡◌, refl, sym, ap, ap₂, subst, ◌∙◌}
use mathlib.Core.Bool.{Bool, true, false}
use mathlib.Core.List.{List}
use Prim.Native.Nat.{ℕ, ◌+◌, ◌*◌, ◌/◌, ◌%◌, ◌^◌, ◌<◌}
use native.Mathlib.Omega.{arith}
use borrow.Author.Count.{below_more}
use borrow.Author.Tests.{ltb-true, ltb-false}
use lib.Dec.{eqb, ltb}
use lib.ListN.{length, get_or, set, length-set}
use lib.Pow.{pow_pos}
use lib.Seq.{get_or-set_same, get_or-set_other}
use Rattle.katan.specs.Bit.{pick, tabulate}
use Rattle.katan.proofs.Tables.{entry}
use Rattle.lanes_transpose.specs.inner.Stage.{swapped_low, swapped_high, Swapped, Passed}
use Rattle.lanes_transpose.proofs.Pair.{Mask}
use Rattle.lanes_transpose.proofs.Again.{low_lt, high_lt, low_again, high_again}

pub four_stored : (next : List ℕ) (i a b c d : ℕ) → length next ≡ 64 → length (set (set (set (set next (4 * i) a) (4 * i + 1) b) (4 * i + 2) c) (4 * i + 3) d) ≡ 64
four_stored next i a b c d l =
    let n1 = set next (4 * i) a in
    let n2 = set n1 (4 * i + 1) b in
    let n3 = set n2 (4 * i + 2) c in
    length-set n3 (4 * i + 3) d ∙ length-set n2 (4 * i + 2) c ∙ length-set n1 (4 * i + 1) b ∙ length-set next (4 * i) a ∙ l

module _ (s m s' m' : ℕ) (rows next : List ℕ) where
  pub passed_none : Passed 0 s m s' m' rows next
  passed_none = record { at0 = λ i h. absurd (omega arith); at1 = λ i h. absurd (omega arith); at2 = λ i h. absurd (omega arith); at3 = λ i h. absurd (omega arith) }

  pub passed_more : (i a b c d : ℕ) → i < 16 → length next ≡ 64 → Passed i s m s' m' rows next
      → a ≡ swapped_low s' m' (swapped_low s m (get_or rows i 0) (get_or rows (i + 32) 0)) (swapped_low s m (get_or rows (i + 16) 0) (get_or rows (i + 48) 0))
      → b ≡ swapped_high s' m' (swapped_low s m (get_or rows i 0) (get_or rows (i + 32) 0)) (swapped_low s m (get_or rows (i + 16) 0) (get_or rows (i + 48) 0))
      → c ≡ swapped_low s' m' (swapped_high s m (get_or rows i 0) (get_or rows (i + 32) 0)) (swapped_high s m (get_or rows (i + 16) 0) (get_or rows (i + 48) 0))
      → d ≡ swapped_high s' m' (swapped_high s m (get_or rows i 0) (get_or rows (i + 32) 0)) (swapped_high s m (get_or rows (i + 16) 0) (get_or rows (i + 48) 0))
      → Passed (i + 1) s m s' m' rows (set (set (set (set next (4 * i) a) (4 * i + 1) b) (4 * i + 2) c) (4 * i + 3) d)
  passed_more i a b c d h l p ea eb ec ed =
      let n1 = set next (4 * i) a in
      let n2 = set n1 (4 * i + 1) b in
      let n3 = set n2 (4 * i + 2) c in
      let l1 : length n1 ≡ 64 = length-set next (4 * i) a ∙ l in
      let l2 : length n2 ≡ 64 = length-set n1 (4 * i + 1) b ∙ l1 in
      let l3 : length n3 ≡ 64 = length-set n2 (4 * i + 2) c ∙ l2 in
      let past : (k : ℕ) → k < 4 * i → get_or (set n3 (4 * i + 3) d) k 0 ≡ get_or next k 0
      = λ k q. get_or-set_other n3 (4 * i + 3) k d 0 (λ e. omega arith) ∙ get_or-set_other n2 (4 * i + 2) k c 0 (λ e. omega arith)
      ∙ get_or-set_other n1 (4 * i + 1) k b 0 (λ e. omega arith) ∙ get_or-set_other next (4 * i) k a 0 (λ e. omega arith) in
      record {
        at0 = below_more _ i (λ k q. past (4 * k) (omega arith) ∙ p.at0 k q)
            (get_or-set_other n3 (4 * i + 3) (4 * i) d 0 (λ e. omega arith) ∙ get_or-set_other n2 (4 * i + 2) (4 * i) c 0 (λ e. omega arith)
            ∙ get_or-set_other n1 (4 * i + 1) (4 * i) b 0 (λ e. omega arith) ∙ get_or-set_same next (4 * i) a 0 (omega arith) ∙ ea);
        at1 = below_more _ i (λ k q. past (4 * k + 1) (omega arith) ∙ p.at1 k q)
            (get_or-set_other n3 (4 * i + 3) (4 * i + 1) d 0 (λ e. omega arith) ∙ get_or-set_other n2 (4 * i + 2) (4 * i + 1) c 0 (λ e. omega arith)
            ∙ get_or-set_same n1 (4 * i + 1) b 0 (omega (arith, l1)) ∙ eb);
        at2 = below_more _ i (λ k q. past (4 * k + 2) (omega arith) ∙ p.at2 k q)
            (get_or-set_other n3 (4 * i + 3) (4 * i + 2) d 0 (λ e. omega arith) ∙ get_or-set_same n2 (4 * i + 2) c 0 (omega (arith, l2)) ∙ ec);
        at3 = below_more _ i (λ k q. past (4 * k + 3) (omega arith) ∙ p.at3 k q)
            (get_or-set_same n3 (4 * i + 3) d 0 (omega (arith, l3)) ∙ ed);
      }

-- what holds of the even and of the odd numbers below 32
halves : (P : ℕ → Type 0) → ((j : ℕ) → j < 16 → P (2 * j)) → ((j : ℕ) → j < 16 → P (2 * j + 1)) → (i : ℕ) → i < 32 → P i
halves P f g i h = by_bit (ltb (i % 2) 1) refl
  where
    by_bit : (b : Bool) → ltb (i % 2) 1 ≡ b → P i
    by_bit true e =
        let d : 2 * (i / 2) ≡ i = omega (arith, ltb-true (i % 2) 1 e) in
        subst P d (f (i / 2) (omega arith))
    by_bit false e =
        let d : 2 * (i / 2) + 1 ≡ i = omega (arith, ltb-false (i % 2) 1 e) in
        subst P d (g (i / 2) (omega arith))

-- a swap of 2 ^ p columns, under a mask that fits it
pub record Swap (p mask : ℕ) : Type 0 where
  pub goes : Mask p (2 ^ p) mask
  pub mask_fits : mask < 2 ^ 64
  pub shifted_fits : mask * 2 ^ (2 ^ p) < 2 ^ 64

module _ (p q mask mask' : ℕ) (w : Swap p mask) (w' : Swap q mask') (x z : List ℕ) (fits : (i : ℕ) → get_or x i 0 < 2 ^ 64) (h : Passed 16 (2 ^ p) mask (2 ^ q) mask' x z) where
  lows : ℕ → ℕ
  lows i = swapped_low (2 ^ p) mask (get_or x i 0) (get_or x (i + 32) 0)

  highs : ℕ → ℕ
  highs i = swapped_high (2 ^ p) mask (get_or x i 0) (get_or x (i + 32) 0)

  rule : ℕ → ℕ
  rule k = pick (eqb (k % 2) 0) (lows (k / 2)) (highs (k / 2))

  -- the rows between the two stages
  pub between : List ℕ
  between = tabulate rule 0 64

  between_even : (j : ℕ) → j < 32 → get_or between (2 * j) 0 ≡ lows j
  unfolding between rule
  between_even j l =
      let e : 2 * j % 2 ≡ 0 = omega arith in
      let d : 2 * j / 2 ≡ j = omega arith in
      entry rule 64 (2 * j) 0 (omega arith) ∙ ap₂ (λ (b k : ℕ). pick (eqb b 0) (lows k) (highs k)) e d

  between_odd : (j : ℕ) → j < 32 → get_or between (2 * j + 1) 0 ≡ highs j
  unfolding between rule
  between_odd j l =
      let e : (2 * j + 1) % 2 ≡ 1 = omega arith in
      let d : (2 * j + 1) / 2 ≡ j = omega arith in
      entry rule 64 (2 * j + 1) 0 (omega arith) ∙ ap₂ (λ (b k : ℕ). pick (eqb b 0) (lows k) (highs k)) e d

  lows_fit : (i : ℕ) → lows i < 2 ^ 64
  unfolding lows
  lows_fit i = low_lt p mask w.goes w.mask_fits w.shifted_fits 0 0 (pow_pos 64) (pow_pos 64) (get_or x i 0) (get_or x (i + 32) 0) (fits i)

  highs_fit : (i : ℕ) → highs i < 2 ^ 64
  unfolding highs
  highs_fit i = high_lt p mask w.goes w.mask_fits w.shifted_fits 0 0 (pow_pos 64) (pow_pos 64) (get_or x i 0) (get_or x (i + 32) 0) (fits (i + 32))

  -- the second stage undone, where its rows c and d stand at m and n
  module _ (a b k l m n : ℕ) (ha : a < 2 ^ 64) (hb : b < 2 ^ 64) (em : k ≡ m) (en : l ≡ n) (e : get_or z k 0 ≡ swapped_low (2 ^ q) mask' a b) (f : get_or z l 0 ≡ swapped_high (2 ^ q) mask' a b) where
    pair_back : {A : Type 0} (g : ℕ → ℕ → A) → g (get_or z m 0) (get_or z n 0) ≡ g (swapped_low (2 ^ q) mask' a b) (swapped_high (2 ^ q) mask' a b)
    pair_back g = ap₂ g (ap (λ (y : ℕ). get_or z y 0) (sym em) ∙ e) (ap (λ (y : ℕ). get_or z y 0) (sym en) ∙ f)

    low_back : swapped_low (2 ^ q) mask' (get_or z m 0) (get_or z n 0) ≡ a
    low_back = pair_back (swapped_low (2 ^ q) mask') ∙ low_again q mask' w'.goes w'.mask_fits w'.shifted_fits a b ha hb

    high_back : swapped_high (2 ^ q) mask' (get_or z m 0) (get_or z n 0) ≡ b
    high_back = pair_back (swapped_high (2 ^ q) mask') ∙ high_again q mask' w'.goes w'.mask_fits w'.shifted_fits a b ha hb

  later : (i : ℕ) → get_or x (i + 48) 0 ≡ get_or x (i + 16 + 32) 0
  later i = ap (λ (n : ℕ). get_or x n 0) (omega arith)

  even0 : (j : ℕ) → j < 16 → get_or z (4 * j) 0 ≡ swapped_low (2 ^ q) mask' (lows j) (lows (j + 16))
  unfolding lows
  even0 j l = h.at0 j l ∙ ap (λ (y : ℕ). swapped_low (2 ^ q) mask' (swapped_low (2 ^ p) mask (get_or x j 0) (get_or x (j + 32) 0)) (swapped_low (2 ^ p) mask (get_or x (j + 16) 0) y)) (later j)

  even1 : (j : ℕ) → j < 16 → get_or z (4 * j + 1) 0 ≡ swapped_high (2 ^ q) mask' (lows j) (lows (j + 16))
  unfolding lows
  even1 j l = h.at1 j l ∙ ap (λ (y : ℕ). swapped_high (2 ^ q) mask' (swapped_low (2 ^ p) mask (get_or x j 0) (get_or x (j + 32) 0)) (swapped_low (2 ^ p) mask (get_or x (j + 16) 0) y)) (later j)

  odd0 : (j : ℕ) → j < 16 → get_or z (4 * j + 2) 0 ≡ swapped_low (2 ^ q) mask' (highs j) (highs (j + 16))
  unfolding highs
  odd0 j l = h.at2 j l ∙ ap (λ (y : ℕ). swapped_low (2 ^ q) mask' (swapped_high (2 ^ p) mask (get_or x j 0) (get_or x (j + 32) 0)) (swapped_high (2 ^ p) mask (get_or x (j + 16) 0) y)) (later j)

  odd1 : (j : ℕ) → j < 16 → get_or z (4 * j + 3) 0 ≡ swapped_high (2 ^ q) mask' (highs j) (highs (j + 16))
  unfolding highs
  odd1 j l = h.at3 j l ∙ ap (λ (y : ℕ). swapped_high (2 ^ q) mask' (swapped_high (2 ^ p) mask (get_or x j 0) (get_or x (j + 32) 0)) (swapped_high (2 ^ p) mask (get_or x (j + 16) 0) y)) (later j)

  pub back_first : Swapped 32 (2 ^ q) mask' z between
  back_first =
      record {
        lows = halves (λ i. get_or between i 0 ≡ swapped_low (2 ^ q) mask' (get_or z (2 * i) 0) (get_or z (2 * i + 1) 0))
            (λ j l. between_even j (omega arith) ∙ sym (low_back (lows j) (lows (j + 16)) (4 * j) (4 * j + 1) (2 * (2 * j)) (2 * (2 * j) + 1) (lows_fit j) (lows_fit (j + 16)) (omega arith) (omega arith) (even0 j l) (even1 j l)))
            (λ j l. between_odd j (omega arith) ∙ sym (low_back (highs j) (highs (j + 16)) (4 * j + 2) (4 * j + 3) (2 * (2 * j + 1)) (2 * (2 * j + 1) + 1) (highs_fit j) (highs_fit (j + 16)) (omega arith) (omega arith) (odd0 j l) (odd1 j l)));
        highs = halves (λ i. get_or between (i + 32) 0 ≡ swapped_high (2 ^ q) mask' (get_or z (2 * i) 0) (get_or z (2 * i + 1) 0))
            (λ j l.
            let d : 2 * j + 32 ≡ 2 * (j + 16) = omega arith in
            ap (λ (y : ℕ). get_or between y 0) d ∙ between_even (j + 16) (omega arith) ∙ sym (high_back (lows j) (lows (j + 16)) (4 * j) (4 * j + 1) (2 * (2 * j)) (2 * (2 * j) + 1) (lows_fit j) (lows_fit (j + 16)) (omega arith) (omega arith) (even0 j l) (even1 j l)))
            (λ j l.
            let d : 2 * j + 1 + 32 ≡ 2 * (j + 16) + 1 = omega arith in
            ap (λ (y : ℕ). get_or between y 0) d ∙ between_odd (j + 16) (omega arith) ∙ sym (high_back (highs j) (highs (j + 16)) (4 * j + 2) (4 * j + 3) (2 * (2 * j + 1)) (2 * (2 * j + 1) + 1) (highs_fit j) (highs_fit (j + 16)) (omega arith) (omega arith) (odd0 j l) (odd1 j l)));
      }

  pub back_second : Swapped 32 (2 ^ p) mask between x
  unfolding lows highs
  back_second =
      record {
        lows = λ i l. sym (ap₂ (swapped_low (2 ^ p) mask) (between_even i l) (between_odd i l) ∙ low_again p mask w.goes w.mask_fits w.shifted_fits (get_or x i 0) (get_or x (i + 32) 0) (fits i) (fits (i + 32)));
        highs = λ i l. sym (ap₂ (swapped_high (2 ^ p) mask) (between_even i l) (between_odd i l) ∙ high_again p mask w.goes w.mask_fits w.shifted_fits (get_or x i 0) (get_or x (i + 32) 0) (fits i) (fits (i + 32)));
      }
