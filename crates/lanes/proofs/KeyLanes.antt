-- Keys in rows and in lanes.
-- Assumes nothing.
use mathlib.Core.Path.{◌≡◌, refl, sym, ap, ◌∙◌}
use mathlib.Core.Bool.{Bool, true, false}
use mathlib.Core.List.{List}
use Prim.Native.Nat.{ℕ, ◌+◌, ◌-◌, ◌*◌, ◌/◌, ◌%◌, ◌^◌, ◌<◌}
use native.Mathlib.Omega.{arith}
use borrow.Author.Tests.{leb-true, leb-false}
use lib.Dec.{leb}
use lib.ListN.{get_or, take, drop}
use lib.Pow.{high, low}
use lib.Seq.{take-take}
use Rattle.katan.specs.Bit.{bit, pick, number_in}
use Rattle.katan.specs.Key.{key_length, key_number}
use Rattle.katan.specs.inner.Within.{Entries}
use Rattle.katan.specs.declared.Key.{Key}
use Rattle.katan.specs.Sizes.{word_bits, key_bytes}
use Rattle.katan.proofs.Bits.{bit-mod, bit-shr}
use Rattle.lanes_transpose.specs.Matrix.{transposed}
use Rattle.lanes_transpose.proofs.Laws.{transposed_bit}
use Rattle.lanes.specs.Many.{block_key}
use Rattle.lanes.specs.inner.Words.{high_bits, high_place, with_high, key_word, HighLanes, KeyLanes}

-- the ten bytes of key i
pub key_part : (keys : List ℕ) (i : ℕ) → number_in (take key_bytes (take (key_bytes * i + key_bytes - key_bytes * i) (drop (key_bytes * i) keys))) ≡ block_key keys i
key_part keys i =
    let e : key_bytes * i + key_bytes - key_bytes * i ≡ key_bytes = omega arith in
    ap (λ (n : ℕ). number_in (take key_bytes (take n (drop (key_bytes * i) keys)))) e ∙ ap number_in (take-take key_bytes key_bytes (drop (key_bytes * i) keys) (omega arith))

-- a key in two words
module _ (key : Key) (x : ℕ) (e : key_number key ≡ x) (h : key.low < 2 ^ word_bits) where
  pub low_part : key.low ≡ x % 2 ^ word_bits
  low_part = sym (low key.high word_bits h) ∙ ap (λ (y : ℕ). y % 2 ^ word_bits) e

  pub high_part : key.high ≡ x / 2 ^ word_bits
  high_part = sym (high key.high word_bits h) ∙ ap (λ (y : ℕ). y / 2 ^ word_bits) e

-- rows with the high bits of the keys have them in their lanes
pub high_lanes : (key x : ℕ → ℕ) (n : ℕ) (rows words : List ℕ) → ((j : ℕ) → j < n → x j < 2 ^ high_place) → Entries (λ j. with_high (key j) (x j)) n rows → words ≡ transposed rows
    → HighLanes key n words
high_lanes key x n rows words small f e j p i q =
    ap (λ (m : List ℕ). bit (get_or m (high_place + i) 0) j) e
    ∙ transposed_bit rows j (high_place + i) (omega arith)
    ∙ ap (λ (y : ℕ). bit y (high_place + i)) (f j p)
    ∙ sym (bit-shr (with_high (key j) (x j)) high_place i)
    ∙ ap (λ (y : ℕ). bit y i) (high (key j / 2 ^ word_bits) high_place (small j p))
    ∙ bit-shr (key j) word_bits i

-- the lanes of the key words
pub key_lanes : (key : ℕ → ℕ) (n : ℕ) (rows low high words : List ℕ) → Entries (λ j. key j % 2 ^ word_bits) n rows → low ≡ transposed rows → HighLanes key n high
    → Entries (key_word low high) key_length words → KeyLanes key n words
key_lanes key n rows low high words f e h g j p i q = ap (λ (y : ℕ). bit y j) (g i q) ∙ by_place (leb word_bits i) refl
  where
    by_place : (b : Bool) → leb word_bits i ≡ b → bit (pick b (get_or high (i - high_bits) 0) (get_or low i 0)) j ≡ bit (key j) i
    by_place false d =
        let l = leb-false word_bits i d in
        ap (λ (m : List ℕ). bit (get_or m i 0) j) e ∙ transposed_bit rows j i l ∙ ap (λ (y : ℕ). bit y i) (f j p) ∙ bit-mod word_bits (key j) i l
    by_place true d =
        let l = leb-true word_bits i d in
        let k = i - word_bits in
        let r : k < high_bits = omega arith in
        let a : i - high_bits ≡ high_place + k = omega arith in
        let b : word_bits + k ≡ i = omega arith in
        ap (λ (m : ℕ). bit (get_or high m 0) j) a ∙ h j p k r ∙ ap (bit (key j)) b
