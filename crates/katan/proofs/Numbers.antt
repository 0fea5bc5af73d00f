-- A number in bytes: how many they are, what they say, and two numbers one above the other.
-- Assumes nothing.
use mathlib.Core.Path.{◌≡◌, refl, sym, ap, ap₂, ◌∙◌}
use mathlib.Core.List.{List, [], ◌∷◌, ◌++◌}
use Prim.Native.Nat.{ℕ, zero, suc, ◌+◌, ◌*◌, ◌/◌, ◌%◌, ◌^◌, ◌<◌}
use native.Mathlib.Nat.{mul_assoc}
use native.Mathlib.Omega.{arith}
use lib.ListN.{length, take}
use lib.Pow.{pow-add, pow_pos}
use Rattle.katan.specs.Bit.{number_in, bytes_of, AreBytes}

pub length-bytes : (n x : ℕ) → length (bytes_of n x) ≡ n
unfolding bytes_of
length-bytes zero x = refl
length-bytes (suc n) x = ap suc (length-bytes n (x / 2 ^ 8))

byte_more : (n : ℕ) → 2 ^ (8 * suc n) ≡ 2 ^ (8 * n) * 2 ^ 8
byte_more n =
    let p : 8 * suc n ≡ 8 * n + 8 = omega arith in
    ap (λ (y : ℕ). 2 ^ y) p ∙ pow-add 2 (8 * n) 8

-- read back, they say the number
pub number-bytes : (n x : ℕ) → x < 2 ^ (8 * n) → number_in (bytes_of n x) ≡ x
unfolding bytes_of
number-bytes zero x h = omega arith
number-bytes (suc n) x h =
    let q : x / 2 ^ 8 < 2 ^ (8 * n) = omega (arith, byte_more n) in
    omega (arith, number-bytes n (x / 2 ^ 8) q)

-- a number of m bytes below another
pub two_numbers : (m n l h : ℕ) → l < 2 ^ (8 * m) → bytes_of (n + m) (h * 2 ^ (8 * m) + l) ≡ bytes_of m l ++ bytes_of n h
unfolding bytes_of
two_numbers zero n l h q =
    let f : n + 0 ≡ n = omega arith in
    let e : h * 2 ^ (8 * 0) + l ≡ h = omega arith in
    ap₂ bytes_of f e
two_numbers (suc m) n l h q =
    let p = h * 2 ^ (8 * m) in
    let f : n + suc m ≡ suc (n + m) = omega arith in
    let e : h * 2 ^ (8 * suc m) ≡ p * 2 ^ 8 = ap (λ (y : ℕ). h * y) (byte_more m) ∙ sym (mul_assoc h (2 ^ (8 * m)) (2 ^ 8)) in
    let low : (h * 2 ^ (8 * suc m) + l) % 2 ^ 8 ≡ l % 2 ^ 8 = omega (arith, e) in
    let high : (h * 2 ^ (8 * suc m) + l) / 2 ^ 8 ≡ p + l / 2 ^ 8 = omega (arith, e) in
    let r : l / 2 ^ 8 < 2 ^ (8 * m) = omega (arith, byte_more m) in
    ap (λ (k : ℕ). bytes_of k (h * 2 ^ (8 * suc m) + l)) f
    ∙ ap₂ ◌∷◌ low (ap (bytes_of (n + m)) high ∙ two_numbers m n (l / 2 ^ 8) h r)

-- the number in n bytes is below 2 ^ (8 n)
pub bytes_below : (n : ℕ) (xs : List ℕ) → AreBytes xs → number_in (take n xs) < 2 ^ (8 * n)
bytes_below zero xs h = omega arith
bytes_below (suc n) [] h = pow_pos (8 * suc n)
bytes_below (suc n) (x ∷ xs) h = omega (arith, byte_more n, bytes_below n xs (λ i. h (suc i)), h 0)
