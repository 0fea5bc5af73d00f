-- A step of one slot, with its bit of the mask.
-- Assumes nothing.
use Rattle.std.specs.Prelude.{ℕ, Option, eqb}
use Rattle.katan.specs.Bit.{pick}
use Rattle.bench.specs.declared.Loaded.{Loaded}

abbrev pub step_slot : (Option Loaded → Option Loaded) → ℕ → Option Loaded → Option Loaded
step_slot f bit s = pick (eqb bit 1) (f s) s

abbrev pub moved_slot : (Option Loaded → ℕ) → ℕ → Option Loaded → ℕ
moved_slot f bit s = pick (eqb bit 1) (f s) 0
