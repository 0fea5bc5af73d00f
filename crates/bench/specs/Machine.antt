-- The one-block machine (document 01).
-- Assumes nothing.
use Rattle.std.specs.Prelude.{ℕ, suc, ◌+◌, ◌-◌, min, List, [], ◌∷◌}
use Rattle.katan.specs.Bit.{pick}
use Rattle.katan.specs.Counter.{rounds}
use Rattle.katan.specs.Key.{key_number}
use Rattle.bench_record.specs.declared.Record.{Record}
use Rattle.bench_record.specs.Fields.{Kind, load, forward, back, clear, other, kind, names}

-- a lane is empty, or has key, block, load position q and position p
pub data Machine : Type 0 where
  empty : Machine
  loaded : (key block q p : ℕ) → Machine

-- A counted load sets them, with p = q. Forward c makes p the smaller of 254 and p + c; back c makes it the larger of 0 and p - c, which is what
-- `-` of natural numbers gives; clear empties it. A move leaves an empty lane empty. No record of another kind counts.
unfoldable pub step_as : Kind → Record → Machine → Machine
step_as load r m = loaded (key_number r.key) r.block r.count r.count
step_as forward r empty = empty
step_as forward r (loaded key block q p) = loaded key block q (min rounds (p + r.count))
step_as back r empty = empty
step_as back r (loaded key block q p) = loaded key block q (p - r.count)
step_as clear r m = empty
step_as other r m = m

-- the positions moved; 0 for load and clear
unfoldable pub moved_as : Kind → Record → Machine → ℕ
moved_as load r m = 0
moved_as forward r empty = 0
moved_as forward r (loaded key block q p) = min rounds (p + r.count) - p
moved_as back r empty = 0
moved_as back r (loaded key block q p) = p - (p - r.count)
moved_as clear r m = 0
moved_as other r m = 0

-- what the counted record r makes of the machine of lane i: it steps it if it names the lane
abbrev pub machine_step : Record → ℕ → Machine → Machine
machine_step r i m = pick (names r i) (step_as (kind r) r m) m

-- and of the machines of the lanes from i on
unfoldable pub step_all : Record → ℕ → List Machine → List Machine
step_all r i [] = []
step_all r i (m ∷ ms) = machine_step r i m ∷ step_all r (suc i) ms

-- a move's total is the sum, over named lanes, of the positions moved
unfoldable pub total_of : Record → ℕ → List Machine → ℕ
total_of r i [] = 0
total_of r i (m ∷ ms) = pick (names r i) (moved_as (kind r) r m) 0 + total_of r (suc i) ms
