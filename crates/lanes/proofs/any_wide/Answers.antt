use mathlib.Core.List.{List, [], ◌∷◌}
use mathlib.Core.Path.{◌≡◌, refl, sym, ap, ◌∙◌}
use mathlib.Core.Bool.{Bool, true, false}
use Prim.Native.Nat.{ℕ, ◌^◌}
use native.Mathlib.Omega.{arith}
use borrow.Author.Tests.{leb-true, leb-false, le-leb, lt-leb}
use lib.Bits.{bit_or, or_add_and, or_lt, and_le_l, and_le_r}
use lib.Dec.{leb}
use lib.Pow.{pow_pos}
use Rattle.std.specs.List.{fold}
use Rattle.katan.specs.Bit.{or, pick}
use Rattle.lanes.specs.Many.{any}
use Rattle.lanes.proofs.any_wide.Goals as goal

or-or : (a b d : Bool) → pick (pick a true b) true d ≡ pick a true (pick b true d)
or-or true b d = refl
or-or false b d = refl

or-none : (a : Bool) → pick a true false ≡ a
or-none true = refl
or-none false = refl

-- an or of two words is 2^n or more if one of them is
module _ (n a b : ℕ) where
  or_cases : (p q : Bool) → leb (2 ^ n) a ≡ p → leb (2 ^ n) b ≡ q → leb (2 ^ n) (bit_or a b) ≡ pick p true q
  or_cases true q e d = le-leb (2 ^ n) (bit_or a b) (omega (arith, or_add_and a b, and_le_r a b, leb-true (2 ^ n) a e))
  or_cases false true e d = le-leb (2 ^ n) (bit_or a b) (omega (arith, or_add_and a b, and_le_l a b, leb-true (2 ^ n) b d))
  or_cases false false e d = lt-leb (2 ^ n) (bit_or a b) (or_lt n a b (leb-false (2 ^ n) a e) (leb-false (2 ^ n) b d))

  or_wide : leb (2 ^ n) (bit_or a b) ≡ pick (leb (2 ^ n) a) true (leb (2 ^ n) b)
  or_wide = or_cases (leb (2 ^ n) a) (leb (2 ^ n) b) refl refl

-- and an or of them all, if one of them is
fold_wide : (n a : ℕ) (xs : List ℕ) → leb (2 ^ n) (fold or a xs) ≡ pick (leb (2 ^ n) a) true (any (leb (2 ^ n)) xs)
fold_wide n a [] = sym (or-none (leb (2 ^ n) a))
fold_wide n a (x ∷ xs) =
    fold_wide n (or a x) xs
    ∙ ap (λ (b : Bool). pick b true (any (leb (2 ^ n)) xs)) (or_wide n a x)
    ∙ or-or (leb (2 ^ n) a) (leb (2 ^ n) x) (any (leb (2 ^ n)) xs)

pub returns : goal.returns
returns c =
    let a = c.args in
    let f = leb (2 ^ a.n) in
    c.too_wide.ensures
    ∙ ap f c.in_one_word.ensures
    ∙ fold_wide a.n 0 a.blocks.now
    ∙ ap (λ (b : Bool). pick b true (any f a.blocks.now)) (lt-leb (2 ^ a.n) 0 (pow_pos a.n))
