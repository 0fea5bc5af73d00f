-- Bits of which some cannot be read (document 02, (ix)): one more kind of bits for the formulas.
-- Assumes nothing.
use Rattle.std.specs.Prelude.{ℕ, zero, suc}

-- a bit known as 0, known as 1, or unknown
pub data Three : Type 0 where
  is0 : Three
  is1 : Three
  unknown : Three

-- unknown where either is
abbrev pub xor_three : Three → Three → Three
xor_three is0 b = b
xor_three is1 is0 = is1
xor_three is1 is1 = is0
xor_three is1 unknown = unknown
xor_three unknown is0 = unknown
xor_three unknown is1 = unknown
xor_three unknown unknown = unknown

-- 0 times anything is 0, and any other product with an unknown is unknown
abbrev pub and_three : Three → Three → Three
and_three is0 b = is0
and_three is1 b = b
and_three unknown is0 = is0
and_three unknown is1 = unknown
and_three unknown unknown = unknown

-- a bit that is known, as IR is
abbrev pub known : ℕ → Three
known zero = is0
known (suc b) = is1
