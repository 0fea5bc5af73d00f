-- The starred bench cases (document 01), as one table. proofs/Starred.antt proves that each holds.
-- Assumes nothing.
use Rattle.std.specs.Prelude.{◌≡◌, List, [], ◌∷◌, ℕ, ◌-◌, ◌^◌, ◌+◌, ◌*◌, ◌≤◌}
use Rattle.katan.specs.Bit.{xor}
use Rattle.katan.specs.Counter.{counter, ir_of, rounds}
use Rattle.katan.specs.Key.{k, key_bit_number}
use Rattle.katan.specs.Machine.{registers_at}

pub data Case : Type 0 where
  -- T of round r
  counts : (r t : ℕ) → Case
  -- IR of round r
  irregular : (r ir : ℕ) → Case
  -- the KTANTAN key bit numbers of round r
  picks : (r a b : ℕ) → Case
  -- k(i) is k(a) xor k(b) xor k(c) xor k(d), for every key
  follows : (i a b c d : ℕ) → Case
  -- zero key, zero block: zero at each position
  rests : (variant : ℕ) → Case
  -- the registers at a position of a block loaded at 0
  reaches : (variant key x position y : ℕ) → Case

-- what a case says
unfoldable pub Says : Case → Type 0
Says (counts r t) = counter r ≡ t
Says (irregular r ir) = ir_of (counter r) ≡ ir
Says (picks r a b) = (key_bit_number (2 * r) ≡ a) × (key_bit_number (2 * r + 1) ≡ b)
Says (follows i a b c d) = (key : ℕ) → k key i ≡ xor (xor (xor (k key a) (k key b)) (k key c)) (k key d)
Says (rests v) = (p : ℕ) → p ≤ rounds → registers_at v 0 0 0 p ≡ 0
Says (reaches v key x p y) = registers_at v key 0 x p ≡ y

-- each case of a list holds
unfoldable pub Hold : List Case → Type 0
Hold [] = Unit {0}
Hold (x ∷ xs) = Says x × Hold xs

abbrev ones : ℕ
ones = 2 ^ 80 - 1

unfoldable pub table : List Case
table =
    counts 0 0xfe ∷ counts 1 0xfc ∷ counts 2 0xf8 ∷ counts 3 0xf1 ∷ counts 4 0xe3 ∷ counts 5 0xc6 ∷ counts 6 0x8d ∷ counts 7 0x1a ∷ counts 8 0x35 ∷ counts 9 0x6a
    ∷ counts rounds 0xff
    ∷ irregular 10 1 ∷ irregular 11 1 ∷ irregular 12 0 ∷ irregular 13 1 ∷ irregular 14 0 ∷ irregular 15 1 ∷ irregular 16 0 ∷ irregular 17 1 ∷ irregular 18 0 ∷ irregular 19 1
    ∷ picks 0 63 31 ∷ picks 1 31 63 ∷ picks 2 31 63 ∷ picks 3 15 47 ∷ picks 4 14 14 ∷ picks 5 60 76 ∷ picks 6 40 40 ∷ picks 7 49 17
    ∷ follows 80 0 19 30 67
    ∷ rests 1 ∷ rests 2 ∷ rests 3 ∷ rests 4 ∷ rests 5 ∷ rests 6
    ∷ reaches 1 ones 0 1 0x00080001 ∷ reaches 1 ones 0 2 0x00180003 ∷ reaches 1 ones 0 3 0x00380007 ∷ reaches 1 ones 0 4 0x0078000f ∷ reaches 1 ones 0 5 0x00f8001e
    ∷ reaches 2 ones 0 1 0x000060000003 ∷ reaches 3 ones 0 1 0x0000038000000007
    ∷ reaches 4 (2 ^ 63) 0 1 0x00000001 ∷ reaches 4 (2 ^ 31) 0 1 0x00080000
    ∷ reaches 4 (2 ^ 14) 0 0 0 ∷ reaches 4 (2 ^ 14) 0 1 0 ∷ reaches 4 (2 ^ 14) 0 2 0 ∷ reaches 4 (2 ^ 14) 0 3 0 ∷ reaches 4 (2 ^ 14) 0 4 0
    ∷ reaches 4 (2 ^ 14) 0 5 0x00080001
    ∷ []
