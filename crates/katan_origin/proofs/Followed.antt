-- Laws of the two chains: they are followed far enough, their equations, and how far their counts go.
-- Assumes nothing.
use mathlib.Core.Path.{◌≡◌, refl}
use mathlib.Core.Bool.{Bool, true, false}
use Prim.Native.Nat.{ℕ, zero, suc, ◌+◌, ◌-◌, ◌^◌, ◌<◌, ◌≤◌}
use native.Mathlib.Nat.{le_trans, one-le-pow, pow-le-pow_right}
use native.Mathlib.Omega.{arith}
use borrow.Author.Tests.{ltb-true}
use lib.Dec.{ltb}
use lib.Pow.{pow-add}
use Rattle.katan.specs.Clock.{registers}
use Rattle.katan.specs.Variant.{row_of}
use Rattle.katan.proofs.Undo.{sound, fa_same, fb_same}
use Rattle.katan_origin.specs.Chains.{xor_traced, and_traced, came_from, place_at, fa_from, fb_from, fa_within, fb_within, fa_at, fb_at}
use Rattle.katan_origin.specs.declared.chains.Traced.{Traced}

-- ---- the bit at a place, by the chain that it entered from

module _ (e f : ℕ → Traced) (l t : ℕ) (same : (s : ℕ) → s < t → e s ≡ f s) where
  came_same : (i : ℕ) (b : Bool) → ltb i t ≡ b → came_from b e l t i ≡ came_from b f l t i
  came_same i true q = let h = ltb-true i t q in same (t - 1 - i) (omega arith)
  came_same i false q = refl

  place_same : (i : ℕ) → place_at e l t i ≡ place_at f l t i
  place_same i = came_same i (ltb i t) refl

module _ (e : ℕ → Traced) (l t : ℕ) (few : (s : ℕ) → (e s).count ≤ 6 ^ (s + 1)) where
  came_few : (i : ℕ) (b : Bool) → ltb i t ≡ b → (came_from b e l t i).count ≤ 6 ^ t
  came_few i true q = let h = ltb-true i t q in le_trans (few (t - 1 - i)) (pow-le-pow_right {n = 6} (omega arith) {i = t - 1 - i + 1} {j = t} (omega arith))
  came_few i false q = one-le-pow t 6 (omega arith)

  -- a place takes at most 6 ^ t block bits
  pub place_few : (i : ℕ) → (place_at e l t i).count ≤ 6 ^ t
  place_few i = came_few i (ltb i t) refl

module _ (v key x : ℕ) where
  -- ---- any n over t gives the same

  module _ (e f : ℕ → Traced) (t : ℕ) (same : (s : ℕ) → s < t → e s ≡ f s) where
    fa_from_same : fa_from v key x e t ≡ fa_from v key x f t
    fa_from_same = fa_same xor_traced and_traced (row_of v) (sound v) _ _ _ _ (λ i q. place_same e f (registers (row_of v) x).l1 t same i)

    fb_from_same : fb_from v key x e t ≡ fb_from v key x f t
    fb_from_same = fb_same xor_traced and_traced (row_of v) (sound v) _ _ _ (λ i q. place_same e f (registers (row_of v) x).l2 t same i)

  mutual
    unfolding fa_within

    fa_enough : (n m t : ℕ) → t < n → t < m → fa_within v key x n t ≡ fa_within v key x m t
    fa_enough zero m t p q = absurd (omega arith)
    fa_enough (suc n) zero t p q = absurd (omega arith)
    fa_enough (suc n) (suc m) t p q = fa_from_same (fb_within v key x n) (fb_within v key x m) t (λ s h. fb_enough n m s (omega arith) (omega arith))

    fb_enough : (n m t : ℕ) → t < n → t < m → fb_within v key x n t ≡ fb_within v key x m t
    fb_enough zero m t p q = absurd (omega arith)
    fb_enough (suc n) zero t p q = absurd (omega arith)
    fb_enough (suc n) (suc m) t p q = fb_from_same (fa_within v key x n) (fa_within v key x m) t (λ s h. fa_enough n m s (omega arith) (omega arith))

  -- THEOREM: the two equations, with no bound
  pub fa_followed : (t : ℕ) → fa_at v key x t ≡ fa_from v key x (fb_at v key x) t
  unfolding fa_within
  fa_followed t = fa_from_same (fb_within v key x t) (fb_at v key x) t (λ s h. fb_enough t (suc s) s h (omega arith))

  pub fb_followed : (t : ℕ) → fb_at v key x t ≡ fb_from v key x (fa_at v key x) t
  unfolding fb_within
  fb_followed t = fb_from_same (fa_within v key x t) (fa_at v key x) t (λ s h. fa_enough t (suc s) s h (omega arith))

  -- ---- at most 6 ^ (t + 1) block bits are looked up

  module _ (e : ℕ → Traced) (t : ℕ) (few : (s : ℕ) → (e s).count ≤ 6 ^ (s + 1)) where
    fa_few : (fa_from v key x e t).count ≤ 6 ^ (t + 1)
    fa_few =
        let r = row_of v in
        let p = place_few e (registers r x).l1 t few in
        omega (arith, pow-add 6 t 1, p r.x1, p r.x2, p r.x3, p r.x4, p r.x5)

    fb_few : (fb_from v key x e t).count ≤ 6 ^ (t + 1)
    fb_few =
        let r = row_of v in
        let p = place_few e (registers r x).l2 t few in
        omega (arith, pow-add 6 t 1, p r.y1, p r.y2, p r.y3, p r.y4, p r.y5, p r.y6)

  mutual
    unfolding fa_within

    fa_few_within : (n t : ℕ) → (fa_within v key x n t).count ≤ 6 ^ (t + 1)
    fa_few_within zero t = omega arith
    fa_few_within (suc n) t = fa_few (fb_within v key x n) t (λ s. fb_few_within n s)

    fb_few_within : (n t : ℕ) → (fb_within v key x n t).count ≤ 6 ^ (t + 1)
    fb_few_within zero t = omega arith
    fb_few_within (suc n) t = fb_few (fa_within v key x n) t (λ s. fa_few_within n s)

  pub fa_at_most : (t : ℕ) → (fa_at v key x t).count ≤ 6 ^ (t + 1)
  fa_at_most t = fa_few_within (suc t) t

  pub fb_at_most : (t : ℕ) → (fb_at v key x t).count ≤ 6 ^ (t + 1)
  fb_at_most t = fb_few_within (suc t) t
