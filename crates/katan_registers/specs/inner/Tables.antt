-- What the private functions say of tables. No promise of a public function cites it.
-- Assumes nothing.
use Rattle.std.specs.Prelude.{◌≡◌, false, ℕ, ◌+◌, ◌-◌, ◌*◌, List, get_or}
use Rattle.katan.specs.Bit.{bit, pick}
use Rattle.katan.specs.Counter.{ir_of}
use Rattle.katan.specs.Key.{key_bits}
use Rattle.katan.specs.Variant.{is_katan}
use Rattle.katan.specs.declared.RoundInput.{RoundInput}

-- a KTANTAN's rounds pick from the bits of the key
abbrev pub KeyBits : (v key : ℕ) → List ℕ → Type 0
KeyBits v key bits = is_katan v ≡ false → bits ≡ key_bits key

-- a round's input, from its T and the places of its key bits in w
abbrev pub input_from : (t w i j : ℕ) → RoundInput
input_from t w i j = record { ir = ir_of t; ka = bit w i; kb = bit w j }

-- the input of round r, from T of each round, KTANTAN's key bit numbers and what the round finds its key bits in
abbrev pub table_input : ℕ → List ℕ → List ℕ → ℕ → ℕ → RoundInput
table_input v counters numbers r w =
    input_from (get_or counters r 0) w (pick (is_katan v) 0 (get_or numbers (2 * r) 0)) (pick (is_katan v) 1 (get_or numbers (2 * r + 1) 0))

-- ka of round r + j where i is 0, kb where it is 1: from w, which round r finds its key bits in, or from the bits that a KTANTAN's rounds
-- pick from
abbrev pub key_bit : ℕ → List ℕ → List ℕ → (r w i j : ℕ) → ℕ
key_bit v numbers bits r w i j = pick (is_katan v) (bit w (i + 2 * j)) (get_or bits (get_or numbers (2 * r + i + 2 * j) 0) 0)

-- the input of round r + j, from T of round r
abbrev pub rounds_input : ℕ → List ℕ → List ℕ → List ℕ → (r w j : ℕ) → RoundInput
rounds_input v counters numbers bits r w j =
    record { ir = bit (get_or counters r 0) (7 - j); ka = key_bit v numbers bits r w 0 j; kb = key_bit v numbers bits r w 1 j }
