-- How numbers are written in a script's lines: digits, most significant first; lower-case hexadecimal, decimals without leading zeros (document 01, "Script").
-- Assumes nothing.
use Rattle.std.specs.Prelude.{ℕ, zero, suc, ◌+◌, ◌/◌, ◌%◌, ◌^◌, List, [], ◌∷◌, ltb, leb}
use Rattle.katan.specs.Bit.{pick}

-- the digit of value d below 16: 0 to 9, then a to f
unfoldable pub digit : ℕ → ℕ
digit d = pick (ltb d 10) (48 + d) (87 + d)

-- the lowest k digits of n in base b
unfoldable pub fixed : ℕ → ℕ → ℕ → List ℕ
fixed b zero n = []
fixed b (suc k) n = digit (n / b ^ k % b) ∷ fixed b k n

-- the largest k, up to m, with 10 ^ k at most n; 0 where there is none
unfoldable pub place : ℕ → ℕ → ℕ
place zero n = 0
place (suc m) n = pick (leb (10 ^ suc m) n) (suc m) (place m n)

-- a number below 10 ^ 20 without leading zeros
unfoldable pub decimal : ℕ → List ℕ
decimal n = fixed 10 (suc (place 19 n)) n

-- k hexadecimal digits
abbrev pub hex : ℕ → ℕ → List ℕ
hex k n = fixed 16 k n
