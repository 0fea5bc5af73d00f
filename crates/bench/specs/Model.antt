-- The reference model: the machine of a list (document 01, "Demand 3 speaks of lists"). It knows the bench's variant and is fed only the records'
-- bytes and the lane numbers read; it never looks at a bench or a link.
-- Assumes nothing.
use Rattle.std.specs.Prelude.{ℕ, List, [], ◌∷◌, map, length, get_or, replicate}
use Rattle.katan.specs.Machine.{registers_at}
use Rattle.katan.specs.Checks.{Outcome, value, refused}
use Rattle.katan.specs.Sizes.{lane_count}
use Rattle.bench_record.specs.Fields.{decode}
use Rattle.bench.specs.Machine.{Machine, empty, loaded, machine_step, step_all, total_of}
use Rattle.bench.specs.Calls.{Call, arrival, reading, done, again, Answer}
use Rattle.bench.specs.Checks.{LaneView, empty_lane, loaded_lane, View, Turn, counts, repeats, decision, read_outcome}

-- one one-block machine for each lane; the records that have counted so far, the latest first; the latest's total
pub record Model : Type 0 where
  pub machines : List Machine
  pub counted : List (List ℕ)
  pub total : ℕ

unfoldable pub fresh_model : Model
fresh_model = record { machines = replicate lane_count empty; counted = []; total = 0 }

-- a machine's position and registers: for p < q, katan's theorem `one_state` says that they are the one state of document 01
unfoldable pub machine_view : ℕ → Machine → LaneView
machine_view v empty = empty_lane
machine_view v (loaded key block q p) = loaded_lane (record { position = record { 0 = p }; registers = registers_at v key q block p })

-- last is how many records have counted so far; a repeat is of the latest of these; where a check looks at a lane, it looks at the machine's
unfoldable pub model_view : ℕ → Model → View
model_view v m = record { variant = v; lanes = map (machine_view v) m.machines; last = length m.counted; latest = get_or m.counted 0 [] }

-- a counted record steps the machines of the lanes it names
unfoldable pub after_counted : Model → List ℕ → Model
after_counted m s = record { machines = step_all (decode s) 0 m.machines; counted = s ∷ m.counted; total = total_of (decode s) 0 m.machines }

-- and is answered 'done' with its number and total; a repeat, 'again' with the same two; a refused call, its refusal's number
unfoldable pub arrival_as : Outcome Turn → Model → List ℕ → Model × Answer
arrival_as (value counts) m s = (after_counted m s, value (done (decode s).number (total_of (decode s) 0 m.machines)))
arrival_as (value repeats) m s = (m, value (again (decode s).number m.total))
arrival_as (refused k) m s = (m, refused k)

-- a read, the position and registers of that lane's machine
unfoldable pub model_transition : ℕ → Model → Call → Model × Answer
model_transition v m (arrival s) = arrival_as (decision (model_view v m) s) m s
model_transition v m (reading i) = (m, read_outcome v (model_view v m).lanes i)

-- what counted records, the latest first, make of the empty machine of lane i
unfoldable pub made_by : ℕ → List (List ℕ) → Machine
made_by i [] = empty
made_by i (s ∷ earlier) = machine_step (decode s) i (made_by i earlier)
