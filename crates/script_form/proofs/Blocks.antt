-- The digits of a block, variant by variant.
-- Assumes nothing.
use Prim.Native.Nat.{ℕ, ◌≤◌}
use native.Mathlib.Omega.{arith}
use Rattle.katan.proofs.Undo.{sound}
use Rattle.script_form.specs.Form.{block_digits}

-- at most those of 64 bits
pub digits_fit : (v : ℕ) → block_digits v ≤ 16
digits_fit v = omega (arith, (sound v).n_fits)
