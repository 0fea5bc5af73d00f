-- Bits as the numbers 0 and 1; numbers in bytes.
-- Assumes nothing.
use Rattle.std.specs.Prelude.{ℕ, zero, suc, ◌+◌, ◌*◌, ◌/◌, ◌%◌, ◌^◌, ◌<◌, Bool, true, false, List, [], ◌∷◌, get_or}
use Rattle.std.specs.Int.Bits.{bit_xor, bit_and, bit_or}

-- bit i of x, bit 0 lowest
abbrev pub bit : ℕ → ℕ → ℕ
bit x i = x / 2 ^ i % 2

abbrev pub xor : ℕ → ℕ → ℕ
xor a b = bit_xor a b

abbrev pub and : ℕ → ℕ → ℕ
and a b = bit_and a b

abbrev pub or : ℕ → ℕ → ℕ
or a b = bit_or a b

abbrev pub pick : {A : Type 0} → Bool → A → A → A
pick true a b = a
pick false a b = b

-- the values of f at i, i + 1, .. , n of them
abbrev pub tabulate : {A : Type 0} → (ℕ → A) → ℕ → ℕ → List A
tabulate f i zero = []
tabulate f i (suc n) = f i ∷ tabulate f (suc i) n

-- the number of n bits whose bit i is f i
unfoldable pub from_bits : (ℕ → ℕ) → ℕ → ℕ
from_bits f zero = 0
from_bits f (suc n) = f n * 2 ^ n + from_bits f n

-- the numbers of a list are bytes
abbrev pub AreBytes : List ℕ → Type 0
AreBytes xs = (j : ℕ) → get_or xs j 0 < 2 ^ 8

-- a number in bytes, low byte first
abbrev pub number_in : List ℕ → ℕ
number_in [] = 0
number_in (x ∷ xs) = number_in xs * 2 ^ 8 + x

-- the number x in n bytes, low byte first
unfoldable pub bytes_of : (n x : ℕ) → List ℕ
bytes_of zero x = []
bytes_of (suc n) x = x % 2 ^ 8 ∷ bytes_of n (x / 2 ^ 8)
