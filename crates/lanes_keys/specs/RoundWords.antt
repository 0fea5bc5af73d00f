-- The key words that the rounds use (document 01, "Key bits", at words): bit j of each word belongs to lane j.
-- Assumes nothing.
use Rattle.std.specs.Prelude.{ℕ, ◌*◌, List, get_or}
use Rattle.katan.specs.Bit.{xor, pick, tabulate}
use Rattle.katan.specs.Counter.{rounds}
use Rattle.katan.specs.Key.{k_at, key_bit_number}
use Rattle.katan.specs.Variant.{is_katan}

-- k(i), at words, for every i
unfoldable pub k_word : List ℕ → ℕ → ℕ
k_word key i = k_at xor 0 key i

-- word i of them, ka of round i div 2 and then its kb: KATAN's k(i), or the key word that KTANTAN's table names.
-- A variant number that is 0 is taken as a KATAN, one above 6 as a KTANTAN.
abbrev pub round_word : ℕ → List ℕ → ℕ → ℕ
round_word v key i = pick (is_katan v) (k_word key i) (get_or key (key_bit_number i) 0)

-- those of all rounds
unfoldable pub round_words : ℕ → List ℕ → List ℕ
round_words v key = tabulate (round_word v key) 0 (2 * rounds)
