-- The list of the rounds' key words, from its entries and back; the two equations of k(i) at words.
-- Assumes nothing.
use mathlib.Core.Path.{◌≡◌}
use mathlib.Core.List.{List}
use Prim.Native.Nat.{ℕ, ◌*◌, ◌<◌, ◌≤◌}
use lib.ListN.{length, get_or}
use Rattle.katan.specs.Bit.{xor}
use Rattle.katan.specs.Counter.{rounds}
use Rattle.katan.specs.Key.{key_length, k_rule}
use Rattle.katan.specs.inner.Within.{Entries}
use Rattle.katan.proofs.Keys.{k_low, k-rule}
use Rattle.katan.proofs.Tables.{entry}
use Rattle.katan.proofs.Fill.{full}
use Rattle.lanes_keys.specs.RoundWords.{k_word, round_word, round_words}

module _ (key : List ℕ) (n : length key ≡ key_length) where
  pub k_word_low : (i : ℕ) → i < key_length → k_word key i ≡ get_or key i 0
  unfolding k_word
  k_word_low i q = k_low xor 0 key n i q

  pub k_word_next : (i : ℕ) → key_length ≤ i → k_word key i ≡ k_rule xor (k_word key) i
  unfolding k_word
  k_word_next i p = k-rule xor 0 key n i p

module _ (v : ℕ) (key : List ℕ) where
  pub from_entries : (words : List ℕ) → length words ≡ 2 * rounds → Entries (round_word v key) (2 * rounds) words → words ≡ round_words v key
  unfolding round_words
  from_entries words l e = full (round_word v key) (2 * rounds) words l e

  pub round-word : Entries (round_word v key) (2 * rounds) (round_words v key)
  unfolding round_words
  round-word i q = entry (round_word v key) (2 * rounds) i 0 q
