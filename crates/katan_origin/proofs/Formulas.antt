-- Bits with their counts.
-- Assumes nothing.
use mathlib.Core.Path.{◌≡◌}
use Prim.Native.Nat.{ℕ}
use Rattle.katan_origin.specs.declared.chains.Traced.{Traced}

abbrev traced : ℕ → ℕ → Traced
traced b n = record { bit = b; count = n }

pub same_traced : {b d n m : ℕ} → b ≡ d → n ≡ m → traced b n ≡ traced d m
same_traced e f = rw (e, f)
