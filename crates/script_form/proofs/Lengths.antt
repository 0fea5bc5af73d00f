-- How long numbers are as written, and the place of a decimal's leading digit.
-- Assumes nothing.
use Prim.Native.Nat.{ℕ, zero, suc, ◌+◌, ◌*◌, ◌/◌, ◌^◌, ◌≤◌, ◌<◌}
use mathlib.Core.Path.{◌≡◌, refl, sym, ap, subst}
use mathlib.Core.Bool.{Bool, true, false}
use native.Mathlib.Nat.{pow-suc, pow-zero, div-one, div-div-eq-div-mul, one-le-pow, pow-le-pow_right, le-div_iff_mul-le, div-lt_iff_lt-mul, lt_of_lt_of_le, le_trans, lt_irrefl}
use native.Mathlib.Numerals.{add-one}
use native.Mathlib.Omega.{arith}
use lib.Dec.{leb, eqb, lit<, lit≤}
use lib.ListN.{length}
use borrow.Author.Tests.{leb-true, leb-false, eqb-true, eqb-false}
use Rattle.katan.specs.Bit.{pick}
use Rattle.script_form.specs.Digits.{fixed, place, decimal}

pub length-fixed : (b k n : ℕ) → length (fixed b k n) ≡ k
unfolding fixed
length-fixed b zero n = refl
length-fixed b (suc k) n = ap suc (length-fixed b k n)

-- ---- one digit further

pub div_none : (b n : ℕ) → n / b ^ 0 ≡ n
div_none b n = rw (pow-zero b) (div-one n)

pub div_step : (b k n : ℕ) → n / b ^ suc k ≡ n / b ^ k / b
div_step b k n = simp pow-suc (sym (div-div-eq-div-mul n (b ^ k) b))

-- ---- a decimal's leading digit

some_power : (b k : ℕ) → 0 < b → 0 < b ^ k
some_power b k h = one-le-pow k b h

pub ten : (i j : ℕ) → i ≤ j → 10 ^ i ≤ 10 ^ j
ten i j h = pow-le-pow_right {n = 10} (omega arith) h

-- the place of a number's leading digit
pub place_is : (m k n : ℕ) → k ≤ m → (0 < k → 10 ^ k ≤ n) → n < 10 ^ suc k → place m n ≡ k
unfolding place
place_is zero k n h low high = omega arith
place_is (suc m) k n h low high = go (leb (10 ^ suc m) n) (leb k m) refl refl (place_is m k n)
  where
    go : (t u : Bool) → leb (10 ^ suc m) n ≡ t → leb k m ≡ u → (k ≤ m → (0 < k → 10 ^ k ≤ n) → n < 10 ^ suc k → place m n ≡ k) → pick t (suc m) (place m n) ≡ k
    go true true e f ih = absurd (lt_irrefl n (lt_of_lt_of_le high (le_trans (ten (suc k) (suc m) (omega (arith, leb-true k m f))) (leb-true _ _ e))))
    go true false e f ih = omega (arith, leb-false k m f)
    go false true e f ih = ih (leb-true _ _ f) low high
    go false false e f ih =
        let x : suc m ≡ k = omega (arith, leb-false k m f) in
        let y : 10 ^ suc m ≤ n = subst (λ (z : ℕ). 10 ^ z ≤ n) (sym x) (low (omega arith)) in
        absurd (lt_irrefl n (lt_of_lt_of_le (leb-false _ _ e) y))

-- k divisions by ten have left v of n
module _ (n k v : ℕ) (fits : n < 2 ^ 64) (e : v ≡ n / 10 ^ k) where
  pub place_up : 10 ≤ v → 10 ^ (k + 1) ≤ n
  place_up h =
      let a : 10 * 10 ^ k ≤ n = (le-div_iff_mul-le {k = 10 ^ k} {x = 10} {y = n} (some_power 10 k (lit< tt))).0 (omega arith) in
      rw (add-one k) (omega (arith, pow-suc 10 k))

  pub place_few : 10 ≤ v → k ≤ 19 → k + 1 ≤ 19
  place_few h g = go (eqb k 19) refl
    where
      go : (t : Bool) → eqb k 19 ≡ t → k + 1 ≤ 19
      go true x = absurd (lt_irrefl n (lt_of_lt_of_le (lt_of_lt_of_le fits (lit≤ tt)) (subst (λ (j : ℕ). 10 ^ (j + 1) ≤ n) (eqb-true k 19 x) (place_up h))))
      go false x = let y : k ≡ 19 → ⊥ = eqb-false k 19 x in omega arith

  pub place_next : v / 10 ≡ n / 10 ^ (k + 1)
  place_next = rw (add-one k, div_step 10 k n, e)

  pub place_end : (0 < k → 10 ^ k ≤ n) → k ≤ 19 → v < 10 → k ≡ place 19 n
  place_end low few h =
      let a : n < 10 * 10 ^ k = (div-lt_iff_lt-mul {k = 10 ^ k} {x = n} {y = 10} (some_power 10 k (lit< tt))).0 (omega arith) in
      sym (place_is 19 k n few low (omega (arith, pow-suc 10 k)))

place_most : (m n : ℕ) → place m n ≤ m
unfolding place
place_most zero n = lit≤ tt
place_most (suc m) n = go (leb (10 ^ suc m) n) (place_most m n)
  where
    go : (t : Bool) → place m n ≤ m → pick t (suc m) (place m n) ≤ suc m
    go true h = omega arith
    go false h = omega arith

pub decimal-fixed : (n : ℕ) → decimal n ≡ fixed 10 (place 19 n + 1) n
unfolding decimal
decimal-fixed n = rw (add-one (place 19 n))

-- at most 20 digits
pub decimal_most : (n : ℕ) → length (decimal n) ≤ 20
decimal_most n = rw (decimal-fixed n, length-fixed 10 (place 19 n + 1) n) (omega (arith, place_most 19 n))
