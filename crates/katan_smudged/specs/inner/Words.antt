-- Bits in two words, those known as 1 and those known as 0, and what the private functions make of them, bit by bit. No promise of a
-- public function cites it.
-- Assumes nothing.
use Rattle.std.specs.Prelude.{◌≡◌, ℕ, zero, suc, ◌+◌, ◌-◌, ◌*◌, ◌/◌, ◌%◌, ◌^◌, ◌<◌, List, length, get_or}
use Rattle.katan.specs.Bit.{bit, xor, and, or, pick, tabulate}
use Rattle.katan.specs.Clock.{shift_in, block, registers}
use Rattle.katan.specs.Counter.{counter, ir_of, rounds}
use Rattle.katan.specs.Key.{key_length, key_bit_number, k_at, round_keys}
use Rattle.katan.specs.Variant.{is_katan, row_of}
use Rattle.katan.specs.declared.Row.{Row}
use Rattle.katan_keys.specs.Window.{window_number, slid}
use Rattle.katan_sheet.specs.Three.{Three, is0, xor_three, and_three, known}
use Rattle.katan_sheet.specs.Cells.{Cells, run_cells}
use Rattle.katan_sheet.specs.Sheet.{one_of, zero_of}
use Rattle.katan_sheet.specs.declared.Known.{Known}
use Rattle.katan_smudged.specs.declared.words.Sum.{Sum}
use Rattle.katan_smudged.specs.declared.words.KnownRegisters.{KnownRegisters}
use Rattle.katan_smudged.specs.declared.words.KnownInput.{KnownInput}
use Rattle.katan_keys.specs.declared.Window.{Window}

-- ---- sums and products

-- one term of a sum
unfoldable pub term : Known ℕ → Sum
term a = record { known = or a.ones a.zeros; value = a.ones }

unfoldable pub plus : Sum → Sum → Sum
plus a b = record { known = and a.known b.known; value = xor a.value b.value }

-- a sum's bits: its value counts where it is known
unfoldable pub settled : Sum → Known ℕ
settled s = record { ones = and s.known s.value; zeros = xor s.known (and s.known s.value) }

unfoldable pub times : Known ℕ → Known ℕ → Known ℕ
times a b = record { ones = and a.ones b.ones; zeros = or a.zeros b.zeros }

-- bit i and those above it
unfoldable pub from : Known ℕ → ℕ → Known ℕ
from l i = record { ones = l.ones / 2 ^ i; zeros = l.zeros / 2 ^ i }

-- ---- a clock

unfoldable pub fa_words : Row → Known ℕ → (ir ka : Known ℕ) → Known ℕ
fa_words v l ir ka =
    settled
    (plus (term (from l v.x1))
    (plus (plus (plus (term (from l v.x2)) (term (times (from l v.x3) (from l v.x4)))) (term (times (from l v.x5) ir))) (term ka)))

unfoldable pub fb_words : Row → Known ℕ → (kb : Known ℕ) → Known ℕ
fb_words v l kb =
    settled
    (plus (term (from l v.y1))
    (plus (plus (plus (term (from l v.y2)) (term (times (from l v.y3) (from l v.y4)))) (term (times (from l v.y5) (from l v.y6)))) (term kb)))

-- the lowest bit of b enters a register of w bits
unfoldable pub enter : ℕ → Known ℕ → Known ℕ → Known ℕ
enter w l b = record { ones = shift_in w l.ones (b.ones % 2); zeros = shift_in w l.zeros (b.zeros % 2) }

-- fb enters L1, fa enters L2
unfoldable pub entered_words : Row → KnownRegisters → (fa fb : Known ℕ) → KnownRegisters
entered_words v s fa fb = record { l1 = enter v.len1 s.l1 fb; l2 = enter v.len2 s.l2 fa }

abbrev pub clock_words : Row → KnownInput → KnownRegisters → KnownRegisters
clock_words v u s = entered_words v s (fa_words v s.l1 u.ir u.ka) (fb_words v s.l2 u.kb)

abbrev pub clocks_words : Row → KnownInput → ℕ → KnownRegisters → KnownRegisters
clocks_words v u zero s = s
clocks_words v u (suc c) s = clock_words v u (clocks_words v u c s)

-- the registers of a block, and the block of registers: what is too large for a word is cut off
abbrev pub registers_words : Row → Known ℕ → KnownRegisters
registers_words v k =
    record {
      l1 = record { ones = (registers v k.ones).l1; zeros = (registers v k.zeros).l1 };
      l2 = record { ones = (registers v k.ones).l2; zeros = (registers v k.zeros).l2 };
    }

abbrev pub block_words : Row → KnownRegisters → Known ℕ
block_words v s =
    record {
      ones = block v (record { l1 = s.l1.ones; l2 = s.l2.ones }) % 2 ^ 64;
      zeros = block v (record { l1 = s.l1.zeros; l2 = s.l2.zeros }) % 2 ^ 64;
    }

-- both words of a register of w bits are below 2^w
pub record Fit (w : ℕ) (l : Known ℕ) : Type 0 where
  pub ones_fit : l.ones < 2 ^ w
  pub zeros_fit : l.zeros < 2 ^ w

pub record RegistersFit (v : Row) (s : KnownRegisters) : Type 0 where
  pub l1_fits : Fit v.len1 s.l1
  pub l2_fits : Fit v.len2 s.l2

-- ---- a round's input

-- the two tables, entry by entry
abbrev pub Tables : List ℕ → List ℕ → Type 0
Tables counters numbers = (counters ≡ tabulate counter 0 rounds) × (numbers ≡ tabulate key_bit_number 0 (2 * rounds))

-- a bit that is known
abbrev pub known_words : ℕ → Known ℕ
known_words b = record { ones = b; zeros = 1 - b }

-- the source's bit i
abbrev pub source_bit : Known Window → ℕ → Known ℕ
source_bit w i = record { ones = bit (window_number w.ones) i; zeros = bit (window_number w.zeros) i }

-- from the round's T, and the places of ka and kb in its source
abbrev pub input_from : (t : ℕ) → Known Window → (i j : ℕ) → KnownInput
input_from t w i j = record { ir = known_words (ir_of t); ka = source_bit w i; kb = source_bit w j }

-- the input of round r: KATAN's key bits are the two lowest of the window, KTANTAN's table names them
abbrev pub input_words : ℕ → List ℕ → List ℕ → ℕ → Known Window → KnownInput
input_words v counters numbers r w =
    input_from (get_or counters r 0) w (pick (is_katan v) 0 (get_or numbers (2 * r) 0)) (pick (is_katan v) 1 (get_or numbers (2 * r + 1) 0))

-- the bits that follow in a KATAN's window by the rule: k(i) of k(i - 80), k(i - 61), k(i - 50) and k(i - 13)
unfoldable pub following : (low high : Known ℕ) → Known ℕ
following low high = settled (plus (plus (plus (term low) (term (from low 19))) (term (from low 30))) (term (from high 3)))

-- the source in two numbers of 80 bits
abbrev pub source_bits : Known Window → Known ℕ
source_bits w = record { ones = window_number w.ones; zeros = window_number w.zeros }

-- what enters a KATAN's window, from its two words
abbrev pub following_in : Known Window → Known ℕ
following_in w = following (record { ones = w.ones.low; zeros = w.zeros.low }) (record { ones = w.ones.high; zeros = w.zeros.high })

-- the source a round later
abbrev pub next_source : ℕ → Known Window → Known ℕ
next_source v w =
    pick (is_katan v) (record { ones = slid 1 (following_in w).ones (window_number w.ones); zeros = slid 1 (following_in w).zeros (window_number w.zeros) }) (source_bits w)

-- ---- what words hold

-- the bits at place i
pub record Reads (k : Known ℕ) (i : ℕ) (t : Three) : Type 0 where
  pub one_there : bit k.ones i ≡ one_of t
  pub zero_there : bit k.zeros i ≡ zero_of t

-- n bits, by a rule
pub record Holds (n : ℕ) (k : Known ℕ) (f : ℕ → Three) : Type 0 where
  pub fit : Fit n k
  pub reads : (i : ℕ) → i < n → Reads k i (f i)

pub record HoldsCells (v : Row) (s : KnownRegisters) (c : Cells Three) : Type 0 where
  pub in_l1 : Holds v.len1 s.l1 (λ i. get_or c.l1 i is0)
  pub in_l2 : Holds v.len2 s.l2 (λ i. get_or c.l2 i is0)

-- what a variant's rounds from position p on find their key bits in: a KATAN's the window k(2p) to k(2p + 79), a KTANTAN's the key
abbrev pub source_at : (v : ℕ) → List Three → (p i : ℕ) → Three
source_at v key p i = pick (is_katan v) (k_at xor_three is0 key (2 * p + i)) (get_or key i is0)

-- the second is the source of the position after the first's
abbrev pub Follows : ℕ → Known Window → Known Window → Type 0
Follows v w r = (key : List Three) (p : ℕ) → length key ≡ key_length → Holds key_length (source_bits w) (source_at v key p) → Holds key_length (source_bits r) (source_at v key (suc p))

-- the rounds 0 to p - 1, with this key
abbrev pub run_three : ℕ → List Three → ℕ → Cells Three → Cells Three
run_three v key p c = run_cells xor_three and_three known v (round_keys xor_three is0 v key) p c

-- r is what the registers s hold at position p, from position 0 on, of any bits that s and the source w hold
abbrev pub Runs : ℕ → KnownRegisters → Known Window → ℕ → KnownRegisters → Type 0
Runs v s w p r =
    (key : List Three) (c : Cells Three) → length key ≡ key_length → Holds key_length (source_bits w) (source_at v key 0) → HoldsCells (row_of v) s c → HoldsCells (row_of v) r (run_three v key p c)
