-- How many there are of each: named here and nowhere else.
-- Assumes nothing.
use Rattle.std.specs.Prelude.{ℕ}

-- the lanes of a bench, and the most blocks of one call
abbrev pub lane_count : ℕ
lane_count = 64

-- the bits of a word: so many lanes are worked together
abbrev pub word_bits : ℕ
word_bits = 64

-- the bytes of a word
abbrev pub word_bytes : ℕ
word_bytes = 8

-- the bytes of a key
abbrev pub key_bytes : ℕ
key_bytes = 10
