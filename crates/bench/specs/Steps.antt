-- How the bench carries a counted record out: a lane's step, from its own position with its own key, and the step of all lanes that a mask names. The
-- claim of demand 3 says of every list that this is what one one-block machine for each lane makes, so it rests on no word of this file; on a bench
-- that comes from elsewhere, this is what the promise of an arrival says.
-- Assumes nothing.
use Rattle.std.specs.Prelude.{ℕ, ◌+◌, ◌-◌, ◌/◌, ◌%◌, min, List, [], ◌∷◌, Option, Some, None, eqb, set}
use Rattle.katan.specs.Bit.{pick}
use Rattle.katan.specs.Counter.{rounds}
use Rattle.katan.specs.Key.{key_number}
use Rattle.katan.specs.Machine.{registers_at}
use Rattle.bench_record.specs.declared.Record.{Record}
use Rattle.bench_record.specs.Fields.{Kind, load, forward, back, clear, other}
use Rattle.bench.specs.declared.Loaded.{Loaded}

-- ---- a lane's step

-- what a load puts into its lane
unfoldable pub loaded_by : Record → Loaded
loaded_by r = record { key = r.key; position = record { 0 = r.count }; registers = r.block }

-- what it holds at position p, its registers carried there from its own position
unfoldable pub loaded_at : ℕ → Loaded → ℕ → Loaded
loaded_at v h p = record { key = h.key; position = record { 0 = p }; registers = registers_at v (key_number h.key) h.position.0 h.registers p }

-- how far forward c goes from p, and back c: a lane waits at either end
abbrev pub ahead : ℕ → ℕ → ℕ
ahead c p = min c (rounds - p)

abbrev pub behind : ℕ → ℕ → ℕ
behind c p = min c p

-- a move leaves an empty lane empty
unfoldable pub forward_lane : ℕ → ℕ → Option Loaded → Option Loaded
forward_lane v c None = None
forward_lane v c (Some h) = Some (loaded_at v h (h.position.0 + ahead c h.position.0))

unfoldable pub back_lane : ℕ → ℕ → Option Loaded → Option Loaded
back_lane v c None = None
back_lane v c (Some h) = Some (loaded_at v h (h.position.0 - behind c h.position.0))

-- the positions moved
unfoldable pub forward_moved : ℕ → Option Loaded → ℕ
forward_moved c None = 0
forward_moved c (Some h) = ahead c h.position.0

unfoldable pub back_moved : ℕ → Option Loaded → ℕ
back_moved c None = 0
back_moved c (Some h) = behind c h.position.0

-- ---- a step of the slots

-- the lanes that mask m names, bit 0 the first slot's; and the sum, over them, of the positions moved
unfoldable pub step_slots : (Option Loaded → Option Loaded) → ℕ → List (Option Loaded) → List (Option Loaded)
step_slots f m [] = []
step_slots f m (s ∷ ss) = pick (eqb (m % 2) 1) (f s) s ∷ step_slots f (m / 2) ss

unfoldable pub moved_slots : (Option Loaded → ℕ) → ℕ → List (Option Loaded) → ℕ
moved_slots f m [] = 0
moved_slots f m (s ∷ ss) = pick (eqb (m % 2) 1) (f s) 0 + moved_slots f (m / 2) ss

-- the slots after a counted record, and its total
unfoldable pub slots_as : ℕ → Kind → Record → List (Option Loaded) → List (Option Loaded)
slots_as v load r ss = set ss r.lane (Some (loaded_by r))
slots_as v forward r ss = step_slots (forward_lane v r.count) r.mask ss
slots_as v back r ss = step_slots (back_lane v r.count) r.mask ss
slots_as v clear r ss = step_slots (λ l. None) r.mask ss
slots_as v other r ss = ss

unfoldable pub total_as : Kind → Record → List (Option Loaded) → ℕ
total_as load r ss = 0
total_as forward r ss = moved_slots (forward_moved r.count) r.mask ss
total_as back r ss = moved_slots (back_moved r.count) r.mask ss
total_as clear r ss = 0
total_as other r ss = 0
