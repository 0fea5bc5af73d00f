-- One stage of the transpose: rows swap bits pair by pair.
-- Assumes nothing.
use Rattle.std.specs.Prelude.{ℕ, ◌+◌, ◌*◌, ◌/◌, ◌%◌, ◌^◌, ◌<◌, ◌≡◌, List, get_or}
use Rattle.katan.specs.Bit.{xor, and}
use Rattle.katan.specs.Sizes.{word_bits}

-- where low's bits, shift places up, differ from high's bits under the mask
unfoldable pub difference : (shift mask low high : ℕ) → ℕ
difference shift mask low high = and (xor (low / 2 ^ shift) high) mask

-- the low row and the high row with those bits swapped
unfoldable pub swapped_low : (shift mask low high : ℕ) → ℕ
swapped_low shift mask low high = xor low (difference shift mask low high * 2 ^ shift % 2 ^ word_bits)

unfoldable pub swapped_high : (shift mask low high : ℕ) → ℕ
swapped_high shift mask low high = xor high (difference shift mask low high)

-- next has the first n pairs of neighbouring rows, swapped: pair i as its rows i and i + 32
pub record Swapped (n shift mask : ℕ) (rows next : List ℕ) : Type 0 where
  pub lows : (i : ℕ) → i < n → get_or next i 0 ≡ swapped_low shift mask (get_or rows (2 * i) 0) (get_or rows (2 * i + 1) 0)
  pub highs : (i : ℕ) → i < n → get_or next (i + 32) 0 ≡ swapped_high shift mask (get_or rows (2 * i) 0) (get_or rows (2 * i + 1) 0)

-- two stages the other way: next has, from the first n of 16 fours of rows on, pairs of rows i and i + 32 swapped, and then such pairs of the result
pub record Passed (n shift mask shift' mask' : ℕ) (rows next : List ℕ) : Type 0 where
  pub at0 : (i : ℕ) → i < n → get_or next (4 * i) 0 ≡ swapped_low shift' mask' (swapped_low shift mask (get_or rows i 0) (get_or rows (i + 32) 0)) (swapped_low shift mask (get_or rows (i + 16) 0) (get_or rows (i + 48) 0))
  pub at1 : (i : ℕ) → i < n → get_or next (4 * i + 1) 0 ≡ swapped_high shift' mask' (swapped_low shift mask (get_or rows i 0) (get_or rows (i + 32) 0)) (swapped_low shift mask (get_or rows (i + 16) 0) (get_or rows (i + 48) 0))
  pub at2 : (i : ℕ) → i < n → get_or next (4 * i + 2) 0 ≡ swapped_low shift' mask' (swapped_high shift mask (get_or rows i 0) (get_or rows (i + 32) 0)) (swapped_high shift mask (get_or rows (i + 16) 0) (get_or rows (i + 48) 0))
  pub at3 : (i : ℕ) → i < n → get_or next (4 * i + 3) 0 ≡ swapped_high shift' mask' (swapped_high shift mask (get_or rows i 0) (get_or rows (i + 32) 0)) (swapped_high shift mask (get_or rows (i + 16) 0) (get_or rows (i + 48) 0))
