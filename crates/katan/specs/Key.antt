-- Key bits (document 01). A key is a number of 80 bits; its bits are a list, bit 0 first.
-- Assumes nothing.
use Rattle.std.specs.Prelude.{ℕ, zero, suc, ◌+◌, ◌-◌, ◌*◌, ◌/◌, ◌%◌, ◌^◌, List, [], ◌∷◌, ◌++◌, get_or, eqb}
use Rattle.katan.specs.Bit.{bit, xor, pick, tabulate}
use Rattle.katan.specs.Counter.{counter, rounds}
use Rattle.katan.specs.Variant.{is_katan}
use Rattle.katan.specs.declared.Key.{Key}

-- a key's number
abbrev pub key_number : Key → ℕ
key_number key = key.high * 2 ^ 64 + key.low

-- the key of a number of 80 bits
abbrev pub key_of : ℕ → Key
key_of n = record { low = n % 2 ^ 64; high = n / 2 ^ 64 }

abbrev pub key_length : ℕ
key_length = 80

-- KTANTAN: with u = T div 16 and v = 2 T1 + T0, ka is key bit u where T3 = T2 = 0, else key bit 16 (1 + v) + u
abbrev pub ka_number : ℕ → ℕ
ka_number t = pick (eqb (t / 4 % 4) 0) (t / 16) (16 * (1 + t % 4) + t / 16)

-- kb is key bit 64 + u where T3 = 0 and T2 = 1, else key bit 16 (3 - v) + u
abbrev pub kb_number : ℕ → ℕ
kb_number t = pick (eqb (t / 4 % 4) 1) (64 + t / 16) (16 * (3 - t % 4) + t / 16)

-- entry i of the table of the 508 key bit numbers: ka's of round i div 2, then kb's
abbrev pub key_bit_number : ℕ → ℕ
key_bit_number i = let t = counter (i / 2) in pick (eqb (i % 2) 0) (ka_number t) (kb_number t)

-- KATAN, over any bits with an xor: k(i) of the earlier ones, for i of 80 or more
module _ {B : Type 0} (◌⊕◌ : B → B → B) where
  infixl 60 ◌⊕◌
  abbrev pub k_rule : (ℕ → B) → ℕ → B
  k_rule k i = k (i - 80) ⊕ k (i - 61) ⊕ k (i - 50) ⊕ k (i - 13)

-- over any bits with an xor; z is what a list gives past its end
module _ {B : Type 0} (◌⊕◌ : B → B → B) (z : B) where
  -- KATAN: the list k(0) .. k(79 + m) of the 80 key bits
  abbrev pub k_list : List B → ℕ → List B
  k_list key zero = key
  k_list key (suc m) =
      let ks = k_list key m in
      ks ++ (k_rule ◌⊕◌ (λ j. get_or ks j z) (m + key_length) ∷ [])

  -- k(i), for every i: entry i of the list k(0) .. k(79 + i)
  abbrev pub k_at : List B → ℕ → B
  k_at key i = get_or (k_list key i) i z

  -- what a variant's rounds take their key bits from: a KATAN's k(0) .. k(507), a KTANTAN's key
  abbrev pub round_keys : ℕ → List B → List B
  round_keys v key = pick (is_katan v) (k_list key (2 * rounds - key_length)) key

-- over any bits
module _ {B : Type 0} (z : B) where
  -- ka and kb of round r, with t its T and ks its variant's round keys
  abbrev pub ka_of : ℕ → List B → ℕ → ℕ → B
  ka_of v ks t r = get_or ks (pick (is_katan v) (2 * r) (ka_number t)) z

  abbrev pub kb_of : ℕ → List B → ℕ → ℕ → B
  kb_of v ks t r = get_or ks (pick (is_katan v) (2 * r + 1) (kb_number t)) z

-- the bits of a key
abbrev pub key_bits : ℕ → List ℕ
key_bits key = tabulate (bit key) 0 key_length

-- k(i) of a key, for every i
unfoldable pub k : ℕ → ℕ → ℕ
k key i = k_at xor 0 (key_bits key) i
