-- The key window (document 02, (iii)): the 80 key bits that a KATAN carries along.
-- Assumes nothing.
use Rattle.std.specs.Prelude.{◌≡◌, ℕ, zero, suc, ◌+◌, ◌-◌, ◌*◌, ◌/◌, ◌%◌, ◌^◌, ◌<◌, ◌≤◌}
use Rattle.katan.specs.Bit.{bit, xor, pick, from_bits}
use Rattle.katan.specs.Counter.{counter, ir_of, rounds}
use Rattle.katan.specs.Key.{key_length, k_rule, k}
use Rattle.katan.specs.Variant.{is_katan, last_katan}
use Rattle.katan.specs.Clock.{input_of}
use Rattle.katan_keys.specs.declared.Window.{Window}

-- the window at position p: k(2p) to k(2p + 79) as a number of 80 bits, k(2p) lowest
unfoldable pub window_at : (key p : ℕ) → ℕ
window_at key p = from_bits (λ i. k key (2 * p + i)) key_length

-- the most rounds of one step: the nearest bit of the rule is 13 back, and a round takes two
abbrev pub longest_step : ℕ
longest_step = 6

-- c rounds on: the lowest 2c bits leave, and the lowest 2c of e enter at the top
unfoldable pub slid : (c e w : ℕ) → ℕ
slid c e w = e % 2 ^ (2 * c) * 2 ^ (key_length - 2 * c) + w / 2 ^ (2 * c)

-- those that enter are the next 2c by the rule of k(i)
abbrev pub ahead : (c w : ℕ) → ℕ
ahead c w = slid c (k_rule xor (λ j. w / 2 ^ j) key_length) w

-- c rounds back: the 2c bits that had left return at the bottom, k(i) = k(i + 80) xor k(i + 67) xor k(i + 30) xor k(i + 19)
unfoldable pub behind : (c w : ℕ) → ℕ
behind c w =
    let at : ℕ → ℕ = λ j. w / 2 ^ (j - 2 * c) in
    (w * 2 ^ (2 * c) + xor (xor (xor (at 80) (at 67)) (at 30)) (at 19) % 2 ^ (2 * c)) % 2 ^ key_length

-- f, n times
abbrev pub times : {A : Type 0} → ℕ → (A → A) → A → A
times zero f x = x
times (suc n) f x = f (times n f x)

-- THE CLAIM, of every key and every position p
pub record RunningWindow : Type 0 where
  -- the window at p is k(2p) to k(2p + 79) and no more
  pub its_bits : (key p i : ℕ) → i < key_length → bit (window_at key p) i ≡ k key (2 * p + i)
  pub no_more : (key p : ℕ) → window_at key p < 2 ^ key_length
  -- at position 0 it is the key
  pub first : (key : ℕ) → key < 2 ^ key_length → window_at key 0 ≡ key
  -- going forward and back, by a round or by up to six
  pub forth : (key p c : ℕ) → c ≤ longest_step → ahead c (window_at key p) ≡ window_at key (p + c)
  pub back : (key p c : ℕ) → c ≤ longest_step → behind c (window_at key (p + c)) ≡ window_at key p
  -- of any 80 bits, up to six rounds on at once are that many single ones
  pub at_once : (c w : ℕ) → c ≤ longest_step → w < 2 ^ key_length → ahead c w ≡ times c (ahead 1) w
  -- KATAN's round p takes ka and kb from the window at p
  pub taken : (v key p : ℕ) → v ≤ last_katan → p < rounds
      → input_of v key p ≡ record { ir = ir_of (counter p); ka = bit (window_at key p) 0; kb = bit (window_at key p) 1 }

-- ---- what a variant's rounds find their key bits in: a KATAN's the window of their position, a KTANTAN's the key

abbrev pub source_at : (v key p : ℕ) → ℕ
source_at v key p = pick (is_katan v) (window_at key p) key

-- c rounds later, and c rounds earlier
abbrev pub next_source : (v c w : ℕ) → ℕ
next_source v c w = pick (is_katan v) (ahead c w) w

abbrev pub previous_source : (v c w : ℕ) → ℕ
previous_source v c w = pick (is_katan v) (behind c w) w

-- the number in two words
abbrev pub window_number : Window → ℕ
window_number w = w.high * 2 ^ 64 + w.low
