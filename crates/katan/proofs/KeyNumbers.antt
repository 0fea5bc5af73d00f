-- A key and its number.
-- Assumes nothing.
use mathlib.Core.Path.{◌≡◌, sym, ap, ap₂, ◌∙◌}
use mathlib.Core.List.{List}
use Prim.Native.Nat.{ℕ, ◌^◌, ◌<◌}
use native.Mathlib.Omega.{arith}
use lib.ListN.{length, take}
use lib.Pow.{high, low}
use lib.Seq.{take_all}
use Rattle.katan.specs.Bit.{number_in}
use Rattle.katan.specs.Key.{key_number, key_of}
use Rattle.katan.specs.Sizes.{key_bytes}
use Rattle.katan.specs.declared.Key.{Key}

key_with : ℕ → ℕ → Key
key_with a b = record { low = a; high = b }

pub key_is : (k : Key) (n : ℕ) → k.low < 2 ^ 64 → key_number k ≡ n → k ≡ key_of n
unfolding key_with
key_is k n h e = rw (← e) (ap₂ key_with (sym (low k.high 64 h)) (sym (high k.high 64 h)))

pub number_of_key : (n : ℕ) → key_number (key_of n) ≡ n
number_of_key n = omega arith

-- the key in ten bytes has their number
pub key_read : (bytes : List ℕ) (key : Key) → length bytes ≡ key_bytes → key ≡ key_of (number_in (take key_bytes bytes)) → key_number key ≡ number_in bytes
key_read bytes key ten e = ap key_number e ∙ number_of_key (number_in (take key_bytes bytes)) ∙ ap number_in (take_all key_bytes bytes (omega arith))
