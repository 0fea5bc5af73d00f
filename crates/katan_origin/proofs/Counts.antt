-- The counts by themselves: they depend on the row and the clock alone.
-- Assumes nothing.
use mathlib.Core.Path.{◌≡◌, refl, sym, ap, ap₂, ◌∙◌}
use mathlib.Core.Bool.{Bool, true, false}
use mathlib.Core.List.{List, [], ◌∷◌}
use Prim.Native.Nat.{ℕ, zero, suc, ◌+◌, ◌-◌}
use lib.Dec.{T, ltb, eqb, eqb→eq}
use Rattle.katan.specs.Clock.{fa, fb, registers}
use Rattle.katan.specs.Variant.{row_of}
use Rattle.katan.specs.declared.Row.{Row}
use Rattle.katan.proofs.Bits.{fa_map, fb_map}
use Rattle.katan.proofs.Tables.{both, both_left, both_right}
use Rattle.katan.proofs.Undo.{sound, fa_same, fb_same}
use Rattle.katan_origin.specs.Chains.{xor_traced, and_traced, given, came_from, place_at, clock_input, fa_within, fb_within}
use Rattle.katan_origin.specs.Origin.{origin_of}
use Rattle.katan_origin.specs.Claim.{worked, Counted}
use Rattle.katan_origin.specs.declared.chains.Traced.{Traced}

-- the count of the bit at a place, by the counts of the bits that entered
abbrev came : Bool → (entered : ℕ → ℕ) → (t i : ℕ) → ℕ
came true entered t i = entered (t - 1 - i)
came false entered t i = 1

module _ (r : Row) where
  unfoldable mutual
    fa_count : (n t : ℕ) → ℕ
    fa_count zero t = 0
    fa_count (suc n) t = fa ◌+◌ ◌+◌ r (λ i. came (ltb i t) (λ s. fb_count n s) t i) 0 0

    fb_count : (n t : ℕ) → ℕ
    fb_count zero t = 0
    fb_count (suc n) t = fb ◌+◌ ◌+◌ r (λ i. came (ltb i t) (λ s. fa_count n s) t i) 0

  abbrev count_at : (t : ℕ) → ℕ
  count_at t = fa_count (suc t) t + fb_count (suc t) t

came_count : (e : ℕ → Traced) (f : ℕ → ℕ) → ((s : ℕ) → (e s).count ≡ f s) → (l t i : ℕ) (b : Bool) → (came_from b e l t i).count ≡ came b f t i
came_count e f same l t i true = same (t - 1 - i)
came_count e f same l t i false = refl

module _ (v key x : ℕ) where
  mutual
    unfolding fa_within fa_count

    fa-count : (n t : ℕ) → (fa_within v key x n t).count ≡ fa_count (row_of v) n t
    fa-count zero t = refl
    fa-count (suc n) t =
        let u = clock_input v key t in
        fa_map xor_traced and_traced ◌+◌ ◌+◌ (λ a. a.count) (λ p q. refl) (λ p q. refl) (row_of v) (place_at (fb_within v key x n) (registers (row_of v) x).l1 t) (given u.ir) (given u.ka)
        ∙ fa_same ◌+◌ ◌+◌ (row_of v) (sound v) _ _ 0 0 (λ i q. came_count (fb_within v key x n) (fb_count (row_of v) n) (λ s. fb-count n s) (registers (row_of v) x).l1 t i (ltb i t))

    fb-count : (n t : ℕ) → (fb_within v key x n t).count ≡ fb_count (row_of v) n t
    fb-count zero t = refl
    fb-count (suc n) t =
        fb_map xor_traced and_traced ◌+◌ ◌+◌ (λ a. a.count) (λ p q. refl) (λ p q. refl) (row_of v) (place_at (fa_within v key x n) (registers (row_of v) x).l2 t) (given (clock_input v key t).kb)
        ∙ fb_same ◌+◌ ◌+◌ (row_of v) (sound v) _ _ 0 (λ i q. came_count (fa_within v key x n) (fa_count (row_of v) n) (λ s. fa-count n s) (registers (row_of v) x).l2 t i (ltb i t))

  count_is : (t : ℕ) → (origin_of v key x t).looked_up ≡ count_at (row_of v) t
  count_is t = ap₂ ◌+◌ (fa-count (suc t) t) (fb-count (suc t) t)

-- THEOREM: no key, no block and no kind of variant changes a count
pub same_count : (v key x v' key' x' t : ℕ) → row_of v ≡ row_of v' → (origin_of v key x t).looked_up ≡ (origin_of v' key' x' t).looked_up
same_count v key x v' key' x' t e = count_is v key x t ∙ ap (λ (r : Row). count_at r t) e ∙ sym (count_is v' key' x' t)

-- ---- the worked counts, by a test that is computed

tested : List (ℕ × ℕ × ℕ) → Bool
tested [] = true
tested (c ∷ cs) = both (eqb (count_at (row_of c.0) c.1) c.2) (tested cs)

counted : (cs : List (ℕ × ℕ × ℕ)) → T (tested cs) → Counted cs
unfolding tested
counted [] t = tt
counted (c ∷ cs) t =
    let b = eqb (count_at (row_of c.0) c.1) c.2 in
    (λ key x. count_is c.0 key x c.1 ∙ eqb→eq _ _ (both_left b (tested cs) t), counted cs (both_right b (tested cs) t))

-- THEOREM: the worked examples
pub counts : Counted worked
unfolding tested fa_count
counts = counted worked tt
