-- Blocks, and a message combined with the stream: entry by entry, and block by block.
-- Assumes nothing.
use mathlib.Core.Path.{◌≡◌, refl, sym, ap₂, ◌∙◌}
use mathlib.Core.List.{List, [], ◌∷◌}
use Prim.Native.Nat.{ℕ, zero, suc, ◌+◌, ◌-◌, ◌*◌, ◌/◌, ◌<◌, ◌≤◌, min}
use native.Mathlib.Nat.{add-zero, add-div_left, add-mod_left, div-add-mod', div-eq_of_lt, div-mul-le_self, le-div_iff_mul-le, mod-eq_of_lt, mod-lt}
use native.Mathlib.Omega.{arith}
use lib.ListN.{length, get_or, take, drop, length-drop, length-take}
use lib.Seq.{get_or-drop, get_or-take, length-take-le}
use Rattle.katan.specs.Bit.{xor, bytes_of}
use Rattle.katan.specs.Sizes.{word_bytes}
use Rattle.katan.specs.Machine.{encryption}
use Rattle.katan.specs.Variant.{row32, rows}
use Rattle.katan.specs.inner.Within.{Entries}
use Rattle.katan.proofs.Bits.{xor_undone}
use Rattle.katan.proofs.Fill.{full}
use Rattle.katan.proofs.Numbers.{length-bytes}
use Rattle.katan.proofs.Tables.{entry, length-tabulate}
use Rattle.katan.proofs.Undo.{sound}
use Rattle.lanes_keystream.specs.Stream.{block_bytes, block_count, stream_byte, out_byte, streamed}
use Rattle.lanes_keystream.specs.Claim.{combined}

-- ---- the bytes of a block, and the blocks of m bytes

row_bytes : (i : ℕ) → 0 < (get_or rows i row32).n / 8
row_bytes zero = omega arith
row_bytes (suc zero) = omega arith
row_bytes (suc (suc zero)) = omega arith
row_bytes (suc (suc (suc zero))) = omega arith
row_bytes (suc (suc (suc (suc zero)))) = omega arith
row_bytes (suc (suc (suc (suc (suc zero))))) = omega arith
row_bytes (suc (suc (suc (suc (suc (suc i)))))) = omega arith

pub some_bytes : (v : ℕ) → 0 < block_bytes v
some_bytes v = row_bytes (v - 1)

pub most_bytes : (v : ℕ) → block_bytes v ≤ word_bytes
most_bytes v = omega (arith, (sound v).n_fits)

-- fewer bytes have no more blocks
pub fewer_blocks : (v m n : ℕ) → m ≤ n → block_count v m ≤ block_count v n
fewer_blocks v m n h = (le-div_iff_mul-le (some_bytes v)).1 (omega (arith, div-mul-le_self (m + (block_bytes v - 1)) (block_bytes v)))

-- the blocks have all of them
pub covered : (v m : ℕ) → m ≤ block_count v m * block_bytes v
covered v m =
    let s = block_bytes v in
    omega (arith, div-add-mod' (m + (s - 1)) s, mod-lt (m + (s - 1)) (some_bytes v))

-- each block has a byte of them
pub starts_within : (v m first : ℕ) → first < block_count v m → first * block_bytes v < m
starts_within v m first q =
    let s = block_bytes v in
    omega (arith, some_bytes v, (le-div_iff_mul-le {k = s} {x = suc first} {y = m + (s - 1)} (some_bytes v)).0 q)

-- ---- entry by entry

module _ (v key start : ℕ) (message : List ℕ) where
  pub streamed_length : length (streamed v key start message) ≡ length message
  unfolding streamed
  streamed_length = length-tabulate (out_byte v key start message) 0 (length message)

  streamed_entry : Entries (out_byte v key start message) (length message) (streamed v key start message)
  unfolding streamed
  streamed_entry j h = entry (out_byte v key start message) (length message) j 0 h

  pub is_streamed : (ys : List ℕ) → length ys ≡ length message → Entries (out_byte v key start message) (length message) ys → ys ≡ streamed v key start message
  unfolding streamed
  is_streamed ys l e = full (out_byte v key start message) (length message) ys l e

is_combined : (xs ys zs : List ℕ) → length zs ≡ min (length ys) (length xs)
    → ((j : ℕ) → j < length xs → j < length ys → get_or zs j 0 ≡ xor (get_or xs j 0) (get_or ys j 0)) → zs ≡ combined xs ys
is_combined [] ys [] l e = refl
is_combined [] ys (z ∷ zs) l e = absurd (omega arith)
is_combined (x ∷ xs) [] [] l e = refl
is_combined (x ∷ xs) [] (z ∷ zs) l e = absurd (omega arith)
is_combined (x ∷ xs) (y ∷ ys) [] l e = absurd (omega arith)
is_combined (x ∷ xs) (y ∷ ys) (z ∷ zs) l e =
    ap₂ ◌∷◌ (e 0 (omega arith) (omega arith)) (is_combined xs ys zs (omega arith) (λ j p q. e (suc j) (omega arith) (omega arith)))

-- ---- the laws of a message combined with the stream

module _ (v key start : ℕ) (message : List ℕ) where
  -- the same stream again restores it
  pub streamed_twice : streamed v key start (streamed v key start message) ≡ message
  streamed_twice =
      let l = streamed_length v key start message in
      sym (is_streamed v key start (streamed v key start message) message (sym l)
      (λ j h. rw (streamed_entry v key start message j (omega arith)) (sym (xor_undone (get_or message j 0) (stream_byte v key start j)))))

  -- its first m bytes
  pub streamed_take : (m : ℕ) → m ≤ length message → take m (streamed v key start message) ≡ streamed v key start (take m message)
  streamed_take m h =
      let ys = streamed v key start message in
      let l = streamed_length v key start message in
      let t = length-take-le m message h in
      is_streamed v key start (take m message) (take m ys) (length-take-le m ys (omega arith) ∙ sym t)
      (λ j q.
      let p : j < m = omega arith in
      get_or-take m ys j 0 p ∙ streamed_entry v key start message j (omega arith) ∙ rw (get_or-take m message j 0 p))

  -- its first block
  pub streamed_first : take (block_bytes v) (streamed v key start message) ≡ combined message (bytes_of (block_bytes v) (encryption v key start))
  streamed_first =
      let s = block_bytes v in
      let ys = streamed v key start message in
      let b = length-bytes s (encryption v key start) in
      is_combined message (bytes_of s (encryption v key start)) (take s ys) (length-take s ys ∙ ap₂ min (sym b) (streamed_length v key start message))
      (λ j p q.
      let h : j < s = omega arith in
      get_or-take s ys j 0 h ∙ streamed_entry v key start message j p ∙ rw (div-eq_of_lt h, mod-eq_of_lt h, add-zero))

  -- its other blocks
  pub streamed_rest : drop (block_bytes v) (streamed v key start message) ≡ streamed v key (suc start) (drop (block_bytes v) message)
  streamed_rest =
      let s = block_bytes v in
      let ys = streamed v key start message in
      let l = streamed_length v key start message in
      let d = length-drop s message in
      is_streamed v key (suc start) (drop s message) (drop s ys) (omega (arith, length-drop s ys))
      (λ j h.
      let n : start + (j / s + 1) ≡ suc start + j / s = omega arith in
      get_or-drop s ys j 0 ∙ streamed_entry v key start message (s + j) (omega arith)
      ∙ rw (get_or-drop s message j 0, add-div_left j (some_bytes v), add-mod_left s j, n))
