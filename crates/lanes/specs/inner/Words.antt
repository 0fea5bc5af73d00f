-- What the private functions say of rows and words: row j, and bit j of each word, belong to lane j. No promise of a public function cites it.
-- Assumes nothing.
use Rattle.std.specs.Prelude.{ℕ, ◌+◌, ◌-◌, ◌*◌, ◌/◌, ◌^◌, ◌<◌, ◌≡◌, List, leb, get_or}
use Rattle.katan.specs.Bit.{bit, pick}
use Rattle.katan.specs.Key.{key_length}
use Rattle.katan.specs.Sizes.{word_bits}
use Rattle.lanes_rounds.specs.Words.{all_rounds_run, all_rounds_undone}
use Rattle.lanes.specs.declared.Direction.{Direction}
use Rattle.lanes.specs.declared.Direction.TheVariants.{Encrypt, Decrypt}

-- the bits of a key past its low word, and their place in a row, the highest
abbrev pub high_bits : ℕ
high_bits = key_length - word_bits

abbrev pub high_place : ℕ
high_place = word_bits - high_bits

-- a row of a block below that place, with its key's high bits there
abbrev pub with_high : (key x : ℕ) → ℕ
with_high key x = key / 2 ^ word_bits * 2 ^ high_place + x

-- key word i: word i of `low` below a word's bits, then the words of `high` at the high bits' place
abbrev pub key_word : (low high : List ℕ) → ℕ → ℕ
key_word low high i = pick (leb word_bits i) (get_or high (i - high_bits) 0) (get_or low i 0)

-- lane j has the high bits of x j in the words at their place, for the first n lanes
abbrev pub HighLanes : (ℕ → ℕ) → ℕ → List ℕ → Type 0
HighLanes x n words = (j : ℕ) → j < n → (i : ℕ) → i < high_bits → bit (get_or words (high_place + i) 0) j ≡ bit (x j) (word_bits + i)

-- lane j of the key words is the key x j, for the first n lanes
abbrev pub KeyLanes : (ℕ → ℕ) → ℕ → List ℕ → Type 0
KeyLanes x n words = (j : ℕ) → j < n → (i : ℕ) → i < key_length → bit (get_or words i 0) j ≡ bit (x j) i

-- all rounds of all lanes, either way
abbrev pub all_rounds : Direction → (n : ℕ) → (keys words : List ℕ) → List ℕ
all_rounds Encrypt n keys words = all_rounds_run n keys words
all_rounds Decrypt n keys words = all_rounds_undone n keys words
