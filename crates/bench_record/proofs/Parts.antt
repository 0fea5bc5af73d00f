-- The bytes of a record, and its parts that are numbers: how large they are, and of which byte each bit is.
-- Assumes nothing.
use mathlib.Core.Path.{◌≡◌, refl, sym, ap, ◌∙◌}
use mathlib.Core.List.{List, [], ◌∷◌, ◌++◌}
use mathlib.Core.Bool.{Bool, true, false}
use lib.Dec.{ltb}
use borrow.Author.Tests.{ltb-true, ltb-false}
use Prim.Native.Nat.{ℕ, zero, suc, min, ◌-◌, ◌+◌, ◌*◌, ◌^◌, ◌<◌, ◌≤◌}
use native.Mathlib.Nat.{min-le_left}
use native.Mathlib.Omega.{arith}
use lib.ListN.{replicate, get_or-append, get_or-eq_default, length-append, length-drop, get_or-replicate, length, get_or, take, drop, length-take}
use lib.Seq.{get_or-append_right, take_all, get_or-take, get_or-drop}
use Rattle.katan.specs.Bit.{bit, number_in, AreBytes}
use Rattle.katan.proofs.Bytes.{number_bit}
use Rattle.katan.proofs.Fill.{full}
use Rattle.katan.proofs.Numbers.{bytes_below}
use Rattle.katan.specs.Key.{key_number}
use Rattle.katan.proofs.KeyNumbers.{number_of_key}
use Rattle.bench_record.specs.Fields.{record_length, part, decode}
use Rattle.bench_record.specs.Codec.{record_in}

pub whole_record : (s : List ℕ) → length s ≡ record_length → record_in s ≡ s
unfolding record_in
whole_record s e = sym (full (λ (i : ℕ). get_or s i 0) record_length s e (λ i q. refl))

-- the record that a list starts with is the list, as far as it goes, and zeros after it
module _ (s : List ℕ) (n : ℕ) (e : n ≡ min (length s) record_length) where
  abbrev with_zeros : List ℕ
  with_zeros = take n s ++ drop n (replicate record_length 0)

  at_place : (j : ℕ) → j < record_length → get_or with_zeros j 0 ≡ get_or s j 0
  at_place j q = go (ltb j n) refl
    where
      len : length (take n s) ≡ n
      len = simp length-take (omega arith)

      go : (b : Bool) → ltb j n ≡ b → get_or with_zeros j 0 ≡ get_or s j 0
      go true f =
          let lt = ltb-true j n f in
          get_or-append (take n s) (drop n (replicate record_length 0)) 0 j (omega (arith, len)) ∙ get_or-take n s j 0 lt
      go false f =
          let le = ltb-false j n f in
          get_or-append_right (take n s) (drop n (replicate record_length 0)) j 0 (omega (arith, len))
          ∙ get_or-drop n (replicate record_length 0) (j - length (take n s)) 0
          ∙ get_or-replicate record_length (n + (j - length (take n s))) 0 0 (omega (arith, len))
          ∙ sym (get_or-eq_default s 0 {n = j} (omega arith))

pub record_or_zeros : (s : List ℕ) → record_in s ≡ take (min (length s) record_length) s ++ drop (min (length s) record_length) (replicate record_length 0)
unfolding record_in
record_or_zeros s =
    let n = min (length s) record_length in
    sym (full (λ (j : ℕ). get_or s j 0) record_length (take n s ++ drop n (replicate record_length 0)) (simp (length-append, length-take, length-drop) (omega arith)) (at_place s n refl))

pub take-bytes : (n : ℕ) (xs : List ℕ) → AreBytes xs → AreBytes (take n xs)
take-bytes zero xs h j = omega arith
take-bytes (suc n) [] h j = h j
take-bytes (suc n) (x ∷ xs) h zero = h zero
take-bytes (suc n) (x ∷ xs) h (suc j) = take-bytes n xs (λ i. h (suc i)) j

-- a part read from no more bytes than it has
pub part_of : (m a n : ℕ) (s : List ℕ) {t : List ℕ} → t ≡ take n (drop a s) → n ≤ m → number_in (take m t) ≡ part s a n
part_of m a n s e h =
    let l = take n (drop a s) in
    rw (e, take_all m l (simp length-take (omega (arith, min-le_left n (length (drop a s))))))

module _ (s : List ℕ) (h : AreBytes s) where
  pub drop-bytes : (a : ℕ) → AreBytes (drop a s)
  drop-bytes a j = rw (get_or-drop a s j 0) (h (a + j))

  pub part_lt : (a n : ℕ) → part s a n < 2 ^ (8 * n)
  part_lt a n = bytes_below n (drop a s) (drop-bytes a)

  -- bit 8 j + b of a part is bit b of its byte j
  part_bit : (a n j b : ℕ) → j < n → b < 8 → bit (part s a n) (8 * j + b) ≡ bit (get_or s (a + j) 0) b
  part_bit a n j b p q =
      number_bit (take n (drop a s)) (take-bytes n (drop a s) (drop-bytes a)) j b q
      ∙ ap (λ (y : ℕ). bit y b) (get_or-take n (drop a s) j 0 p ∙ get_or-drop a s j 0)

  pub number_below : (decode s).number < 2 ^ 32
  number_below = part_lt 4 4

  pub mask_below : (decode s).mask < 2 ^ 64
  mask_below = part_lt 8 8

  pub key_below : key_number (decode s).key < 2 ^ 80
  key_below = rw (number_of_key (part s 16 10)) (part_lt 16 10)

  pub block_below : (decode s).block < 2 ^ 64
  block_below = part_lt 26 8

  pub mask_bit : (j b : ℕ) → j < 8 → b < 8 → bit (decode s).mask (8 * j + b) ≡ bit (get_or s (8 + j) 0) b
  mask_bit = part_bit 8 8

  pub key-bit : (j b : ℕ) → j < 10 → b < 8 → bit (key_number (decode s).key) (8 * j + b) ≡ bit (get_or s (16 + j) 0) b
  key-bit j b p q = rw (number_of_key (part s 16 10)) (part_bit 16 10 j b p q)
