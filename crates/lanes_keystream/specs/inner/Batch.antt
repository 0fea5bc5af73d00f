-- What the private functions say of a batch. No promise of a public function cites it.
-- Assumes nothing.
use Rattle.std.specs.Prelude.{ℕ, ◌*◌, ◌/◌, ◌%◌, ◌<◌, ◌≤◌, List, ◌≡◌, get_or}
use Rattle.katan.specs.Bit.{bytes_of}
use Rattle.katan.specs.Sizes.{lane_count, word_bytes}

-- the bytes that a batch is given: each block has a word's
abbrev pub batch_length : ℕ
batch_length = word_bytes * lane_count

-- entries `from` to `to` - 1 of a list are written by a rule, and those before them are as they were
pub record Written (from to : ℕ) (f : ℕ → ℕ) (old new : List ℕ) : Type 0 where
  pub before : (j : ℕ) → j < from → get_or new j 0 ≡ get_or old j 0
  pub there : (j : ℕ) → from ≤ j → j < to → get_or new j 0 ≡ f j

-- byte j of blocks of so many bytes, one after the other, low byte first
abbrev pub byte_of : (size : ℕ) → (ℕ → ℕ) → (j : ℕ) → ℕ
byte_of size x j = get_or (bytes_of size (x (j / size))) (j % size) 0
