-- The transpose's bits and size, and that transposing twice gives the matrix back.
-- Assumes nothing.
use mathlib.Core.Path.{◌≡◌, sym, ap, ◌∙◌}
use mathlib.Core.List.{List, [], ◌∷◌}
use Prim.Native.Nat.{ℕ, zero, suc, ◌+◌, ◌*◌, ◌^◌, ◌<◌}
use native.Mathlib.Nat.{pow-suc}
use native.Mathlib.Omega.{arith}
use lib.Dec.{lit<}
use lib.ListN.{length, get_or}
use lib.Pow.{high, low}
use lib.Seq.{ext_get_or}
use Rattle.katan.specs.Bit.{bit}
use Rattle.katan.specs.Sizes.{word_bits}
use Rattle.katan.proofs.Bits.{bit_lt, bit-zero, bit_lowest, bit-suc, bits_equal}
use Rattle.katan.proofs.Tables.{length-tabulate, entry}
use Rattle.lanes_transpose.specs.Matrix.{column, transposed}

pub column_bit : (m : List ℕ) (i j : ℕ) → bit (column m j) i ≡ bit (get_or m i 0) j
unfolding column
column_bit [] i j = bit-zero i ∙ sym (bit-zero j)
column_bit (row ∷ rows) zero j = bit_lowest (column rows j * 2 + bit row j) ∙ low (column rows j) 1 (bit_lt row j)
column_bit (row ∷ rows) (suc i) j =
    bit-suc (column rows j * 2 + bit row j) i ∙ ap (λ (z : ℕ). bit z i) (high (column rows j) 1 (bit_lt row j)) ∙ column_bit rows i j

pub column_lt : (m : List ℕ) (j : ℕ) → column m j < 2 ^ length m
unfolding column
column_lt [] j = lit< tt
column_lt (row ∷ rows) j = omega (arith, pow-suc 2 (length rows), column_lt rows j, bit_lt row j)

pub transposed_length : (m : List ℕ) → length (transposed m) ≡ word_bits
unfolding transposed
transposed_length m = length-tabulate (column m) 0 word_bits

pub transposed_row : (m : List ℕ) (j : ℕ) → j < word_bits → get_or (transposed m) j 0 ≡ column m j
unfolding transposed
transposed_row m j h = entry (column m) word_bits j 0 h

-- bit i of row j is bit j of row i
pub transposed_bit : (m : List ℕ) (i j : ℕ) → j < word_bits → bit (get_or (transposed m) j 0) i ≡ bit (get_or m i 0) j
transposed_bit m i j h = ap (λ (z : ℕ). bit z i) (transposed_row m j h) ∙ column_bit m i j

pub transposed_lt : (m : List ℕ) (j : ℕ) → length m ≡ word_bits → j < word_bits → get_or (transposed m) j 0 < 2 ^ word_bits
transposed_lt m j l h = rw (transposed_row m j h) (rw l at (column_lt m j))

-- no other matrix of that size has those bits
pub transposed_only : (m n : List ℕ) → length m ≡ word_bits → length n ≡ word_bits → ((j : ℕ) → j < word_bits → get_or n j 0 < 2 ^ word_bits)
    → ((i j : ℕ) → i < word_bits → j < word_bits → bit (get_or n j 0) i ≡ bit (get_or m i 0) j) → n ≡ transposed m
transposed_only m n lm ln small same =
    ext_get_or 0 n (transposed m) (ln ∙ sym (transposed_length m))
    (λ j h.
    let k : j < word_bits = omega arith in
    bits_equal word_bits (get_or n j 0) (get_or (transposed m) j 0) (small j k) (transposed_lt m j lm k) (λ i q. same i j q k ∙ sym (transposed_bit m i j k)))

pub transposed_twice : (m : List ℕ) → length m ≡ word_bits → ((i : ℕ) → i < word_bits → get_or m i 0 < 2 ^ word_bits) → transposed (transposed m) ≡ m
transposed_twice m l small =
    sym (transposed_only (transposed m) m (transposed_length m) l small (λ i j h k. sym (transposed_bit m j i h)))
