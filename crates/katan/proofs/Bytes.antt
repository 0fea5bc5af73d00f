-- A number in bytes: byte by byte, and bit by bit.
-- Assumes nothing.
use mathlib.Core.Path.{◌≡◌, refl, sym, ap, ◌∙◌}
use mathlib.Core.List.{List, [], ◌∷◌}
use Prim.Native.Nat.{ℕ, zero, suc, ◌+◌, ◌*◌, ◌^◌, ◌<◌}
use native.Mathlib.Nat.{zero-add, zero-mul, suc-add, mul_assoc}
use native.Mathlib.Omega.{arith}
use lib.ListN.{get_or, take, drop}
use lib.Seq.{take-nil}
use lib.Pow.{pow-add}
use Rattle.katan.specs.Bit.{bit, number_in, AreBytes}
use Rattle.katan.proofs.Bits.{bit-zero, bit_below, bit_above}

-- the number in n + 1 bytes from i on: the byte at i, and the number in the n after it
pub number_from : (n i : ℕ) (xs : List ℕ) → number_in (take (suc n) (drop i xs)) ≡ number_in (take n (drop (suc i) xs)) * 2 ^ 8 + get_or xs i 0
number_from n zero [] = rw take-nil
number_from n zero (x ∷ xs) = refl
number_from n (suc i) [] = rw take-nil
number_from n (suc i) (x ∷ xs) = number_from n i xs

-- the number in m + n bytes: that in the first m, and that in the n after them
pub number_split : (m n : ℕ) (xs : List ℕ) → number_in (take (m + n) xs) ≡ number_in (take n (drop m xs)) * 2 ^ (8 * m) + number_in (take m xs)
number_split zero n xs = rw zero-add (omega arith)
number_split (suc m) n [] = simp (take-nil, zero-mul)
number_split (suc m) n (x ∷ xs) =
    let a = number_in (take n (drop m xs)) in
    let p : 8 * suc m ≡ 8 * m + 8 = omega arith in
    let e : a * 2 ^ (8 * suc m) ≡ a * 2 ^ (8 * m) * 2 ^ 8
    = ap (λ (y : ℕ). a * 2 ^ y) p ∙ ap (λ (y : ℕ). a * y) (pow-add 2 (8 * m) 8) ∙ sym (mul_assoc a (2 ^ (8 * m)) (2 ^ 8)) in
    rw suc-add (omega (arith, e, number_split m n xs))

-- bit 8 j + b of the number is bit b of byte j
pub number_bit : (xs : List ℕ) → AreBytes xs → (j b : ℕ) → b < 8 → bit (number_in xs) (8 * j + b) ≡ bit (get_or xs j 0) b
number_bit [] h j b q = bit-zero (8 * j + b) ∙ sym (bit-zero b)
number_bit (x ∷ xs) h zero b q =
    let e : 8 * 0 + b ≡ b = omega arith in
    ap (bit (number_in xs * 2 ^ 8 + x)) e ∙ bit_below 8 (number_in xs) (h 0) b q
number_bit (x ∷ xs) h (suc j) b q =
    let e : 8 * suc j + b ≡ 8 + (8 * j + b) = omega arith in
    ap (bit (number_in xs * 2 ^ 8 + x)) e
    ∙ bit_above 8 (number_in xs) (h 0) (8 * j + b)
    ∙ number_bit xs (λ i. h (suc i)) j b q
