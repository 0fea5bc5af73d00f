-- Bits beside other bits: a bit that is known, and the other bit that it is known as.
-- Assumes nothing.
use mathlib.Core.Path.{◌≡◌, refl, ap₂, ◌∙◌}
use Prim.Native.Nat.{ℕ, zero, suc, ◌<◌}
use native.Mathlib.Omega.{arith}
use lib.Bits.{and_zero_l, and_zero_r}
use Rattle.katan.specs.Bit.{xor, and}
use Rattle.katan_sheet.specs.Three.{Three, is0, is1, unknown, xor_three, and_three, known}
use Rattle.katan_sheet.specs.Sheet.{given, one_of, zero_of}

-- what is asked of the other bits
pub record BitLaws {B : Type 0} (x a : B → B → B) (bit_of : ℕ → B) : Type 0 where
  pub xor_known : (b c : ℕ) → b < 2 → c < 2 → x (bit_of b) (bit_of c) ≡ bit_of (xor b c)
  pub and_known : (b c : ℕ) → b < 2 → c < 2 → a (bit_of b) (bit_of c) ≡ bit_of (and b c)
  pub zero-and : (w : B) → a (bit_of 0) w ≡ bit_of 0
  pub and_zero : (w : B) → a w (bit_of 0) ≡ bit_of 0

-- single bits have it
pub of_numbers : BitLaws xor and (λ b. b)
of_numbers = record { xor_known = λ b c p q. refl; and_known = λ b c p q. refl; zero-and = and_zero_l; and_zero = and_zero_r }

-- and so have smudged bits
pub of_three : BitLaws xor_three and_three known
of_three = record { xor_known = three_xor; and_known = three_and; zero-and = λ w. refl; and_zero = three_zero }
  where
    three_xor : (b c : ℕ) → b < 2 → c < 2 → xor_three (known b) (known c) ≡ known (xor b c)
    three_xor zero c p q = refl
    three_xor (suc zero) zero p q = refl
    three_xor (suc zero) (suc zero) p q = refl
    three_xor (suc zero) (suc (suc c)) p q = absurd (omega arith)
    three_xor (suc (suc b)) c p q = absurd (omega arith)

    three_and : (b c : ℕ) → b < 2 → c < 2 → and_three (known b) (known c) ≡ known (and b c)
    three_and zero c p q = refl
    three_and (suc zero) zero p q = refl
    three_and (suc zero) (suc zero) p q = refl
    three_and (suc zero) (suc (suc c)) p q = absurd (omega arith)
    three_and (suc (suc b)) c p q = absurd (omega arith)

    three_zero : (w : Three) → and_three w is0 ≡ is0
    three_zero is0 = refl
    three_zero is1 = refl
    three_zero unknown = refl

module _ {B : Type 0} (bit_of : ℕ → B) where
  -- w is what u is known as
  abbrev pub Agrees : Three → B → Type 0
  Agrees is0 w = w ≡ bit_of 0
  Agrees is1 w = w ≡ bit_of 1
  Agrees unknown w = Unit {0}

  pub same_agrees : (b : ℕ) → b < 2 → Agrees (known b) (bit_of b)
  same_agrees zero h = refl
  same_agrees (suc zero) h = refl
  same_agrees (suc (suc b)) h = absurd (omega arith)

  -- a bit as it is given
  pub given_agrees : (o z : ℕ) (w : B) → o < 2 → z < 2 → (o ≡ 1 → w ≡ bit_of 1) → (z ≡ 1 → w ≡ bit_of 0) → Agrees (given o z) w
  given_agrees zero zero w p q f g = tt
  given_agrees zero (suc zero) w p q f g = g refl
  given_agrees zero (suc (suc z)) w p q f g = absurd (omega arith)
  given_agrees (suc zero) z w p q f g = f refl
  given_agrees (suc (suc o)) z w p q f g = absurd (omega arith)

  -- and as it is shown
  pub one_agrees : (u : Three) (w : B) → Agrees u w → one_of u ≡ 1 → w ≡ bit_of 1
  one_agrees is0 w h e = absurd (omega arith)
  one_agrees is1 w h e = h
  one_agrees unknown w h e = absurd (omega arith)

  pub zero_agrees : (u : Three) (w : B) → Agrees u w → zero_of u ≡ 1 → w ≡ bit_of 0
  zero_agrees is0 w h e = h
  zero_agrees is1 w h e = absurd (omega arith)
  zero_agrees unknown w h e = absurd (omega arith)

module _ {B : Type 0} {x a : B → B → B} {bit_of : ℕ → B} (laws : BitLaws x a bit_of) where
  pub xor_agrees : (u t : Three) (w y : B) → Agrees bit_of u w → Agrees bit_of t y → Agrees bit_of (xor_three u t) (x w y)
  xor_agrees is0 is0 w y p q = ap₂ x p q ∙ laws.xor_known 0 0 (omega arith) (omega arith)
  xor_agrees is0 is1 w y p q = ap₂ x p q ∙ laws.xor_known 0 1 (omega arith) (omega arith)
  xor_agrees is0 unknown w y p q = tt
  xor_agrees is1 is0 w y p q = ap₂ x p q ∙ laws.xor_known 1 0 (omega arith) (omega arith)
  xor_agrees is1 is1 w y p q = ap₂ x p q ∙ laws.xor_known 1 1 (omega arith) (omega arith)
  xor_agrees is1 unknown w y p q = tt
  xor_agrees unknown is0 w y p q = tt
  xor_agrees unknown is1 w y p q = tt
  xor_agrees unknown unknown w y p q = tt

  pub and_agrees : (u t : Three) (w y : B) → Agrees bit_of u w → Agrees bit_of t y → Agrees bit_of (and_three u t) (a w y)
  and_agrees is0 t w y p q = rw p (laws.zero-and y)
  and_agrees is1 is0 w y p q = rw q (laws.and_zero w)
  and_agrees is1 is1 w y p q = ap₂ a p q ∙ laws.and_known 1 1 (omega arith) (omega arith)
  and_agrees is1 unknown w y p q = tt
  and_agrees unknown is0 w y p q = rw q (laws.and_zero w)
  and_agrees unknown is1 w y p q = tt
  and_agrees unknown unknown w y p q = tt
