-- The registers of the one-block machine (document 01), as numbers below 2^n.
-- Assumes nothing.
use Rattle.std.specs.Prelude.{ℕ, ◌-◌, ◌^◌, ◌<◌, ◌≡◌, leb}
use Rattle.katan.specs.Bit.{pick}
use Rattle.katan.specs.Counter.{rounds}
use Rattle.katan.specs.Variant.{row_of, width_of}
use Rattle.katan.specs.Clock.{run, unrun, input_of, block, registers}

-- rounds p to p + c - 1 run on x
abbrev pub forward : ℕ → ℕ → ℕ → ℕ → ℕ → ℕ
forward v key p c x = block (row_of v) (run (row_of v) (input_of v key) p c (registers (row_of v) x))

-- the same rounds undone
abbrev pub back : ℕ → ℕ → ℕ → ℕ → ℕ → ℕ
back v key p c x = block (row_of v) (unrun (row_of v) (input_of v key) p c (registers (row_of v) x))

-- the registers at position p of block x loaded at q: for p ≥ q, rounds q to p - 1 run on the block; for p < q, the state that OneState is about
unfoldable pub registers_at : (v key q x p : ℕ) → ℕ
registers_at v key q x p = pick (leb q p) (forward v key q (p - q) x) (back v key p (q - p) x)

-- y is the one state that rounds p to q - 1 carry to the block x
pub record OneState (v key p q x y : ℕ) : Type 0 where
  pub is_state : y < 2 ^ width_of v
  pub carried : forward v key p (q - p) y ≡ x
  pub only : (w : ℕ) → w < 2 ^ width_of v → forward v key p (q - p) w ≡ x → w ≡ y

-- encryption is a load at 0 read at 254
unfoldable pub encryption : (v key x : ℕ) → ℕ
encryption v key x = registers_at v key 0 x rounds

-- decryption is the reverse
unfoldable pub decryption : (v key x : ℕ) → ℕ
decryption v key x = registers_at v key rounds x 0
