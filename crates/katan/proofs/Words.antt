-- Words written one by one over lent memory of as many.
-- Assumes nothing.
use mathlib.Core.Path.{◌≡◌, refl, ap}
use mathlib.Core.List.{List, [], ◌∷◌}
use Prim.Native.Nat.{ℕ}
use native.Mathlib.Omega.{arith}
use lib.ListN.{length, set}

pub one_word : (a : ℕ) (xs : List ℕ) → length xs ≡ 1 → set xs 0 a ≡ a ∷ []
one_word a [] e = absurd (omega arith)
one_word a (x ∷ []) e = refl
one_word a (x ∷ y ∷ xs) e = absurd (omega arith)

pub two_words : (a b : ℕ) (xs : List ℕ) → length xs ≡ 2 → set (set xs 0 a) 1 b ≡ a ∷ b ∷ []
two_words a b [] e = absurd (omega arith)
two_words a b (x ∷ xs) e = ap (λ (ys : List ℕ). a ∷ ys) (one_word b xs (omega arith))

pub three_words : (a b c : ℕ) (xs : List ℕ) → length xs ≡ 3 → set (set (set xs 0 a) 1 b) 2 c ≡ a ∷ b ∷ c ∷ []
three_words a b c [] e = absurd (omega arith)
three_words a b c (x ∷ xs) e = ap (λ (ys : List ℕ). a ∷ ys) (two_words b c xs (omega arith))
