-- A lane that check 1 finds no fault in: it is never refused, and where it does not move it stays as it is.
-- Assumes nothing.
use mathlib.Core.Path.{◌≡◌, refl, ap, ap₂, ◌∙◌}
use mathlib.Core.Bool.{Bool, true, false, ◌||◌}
use Rattle.std.specs.Prelude.{Option, Some, Result, Ok, Err}
use mathlib.Core.List.{List, [], ◌∷◌, map}
use Prim.Native.Nat.{ℕ, ◌+◌, ◌/◌, ◌%◌, ◌≤◌}
use lib.Dec.{eqb}
use borrow.Author.Tests.{ltb-false, le-ltb}
use Rattle.katan.specs.Bit.{pick}
use Rattle.katan.specs.Counter.{rounds}
use Rattle.katan.specs.Key.{key_number}
use Rattle.katan.specs.Machine.{registers_at}
use Rattle.katan.specs.Checks.{value, outcome, variant_check, position_check, block_check}
use Rattle.katan.proofs.Positions.{at_load}
use Rattle.katan_registers.specs.Answers.{registers_answer}
use Rattle.katan.specs.declared.Refusal.{Refusal}
use Rattle.bench.specs.declared.Loaded.{Loaded}
use Rattle.bench.specs.declared.Bench.{Bench}
use Rattle.bench.specs.Checks.{LaneView, lane_fault, any_lane_fault, bench_check}
use Rattle.bench.specs.Bench.{lane_view}
use Rattle.bench.specs.Steps.{loaded_at, step_slots, moved_slots}
use Rattle.katan.proofs.Booleans.{neither}
use Rattle.bench_moves.specs.Moves.{lane_as, moved_as, step_lane, move_lane, with_slots}
use Rattle.bench_moves.specs.inner.Sound.{SoundLane, SoundBench}
use Rattle.bench_moves.specs.declared.Motion.{Motion}
use Rattle.bench_moves.specs.declared.Motion.TheVariants.{Clear}

pub held : (v : ℕ) {l : Option Loaded} {h : Loaded} → l ≡ Some h → SoundLane v l → SoundLane v (Some h)
held v e s = rw e at s

pub already : (v : ℕ) (h : Loaded) (p : ℕ) → h.position.0 ≡ p → h ≡ loaded_at v h p
unfolding loaded_at
already v h p e = rw (← e, at_load v (key_number h.key) h.position.0 h.registers)

module _ (v : ℕ) (h : Loaded) (s : SoundLane v (Some h)) where
  of_lane : ((variant_check v).fault ≡ false) × (lane_fault v (lane_view (Some h)) ≡ false)
  unfolding any_lane_fault
  of_lane =
      let a = neither (variant_check v).fault (lane_fault v (lane_view (Some h)) || false) s in
      (a.0, (neither (lane_fault v (lane_view (Some h))) false a.1).0)

  parts : ((position_check h.position.0).fault ≡ false) × ((block_check v h.registers).fault ≡ false)
  unfolding lane_fault
  parts = neither (position_check h.position.0).fault (block_check v h.registers).fault of_lane.1

  position_in : h.position.0 ≤ rounds
  position_in = ltb-false rounds h.position.0 parts.0

  module _ (p : ℕ) (q : p ≤ rounds) where
    no_fault : registers_answer v (key_number h.key) h.position.0 p h.registers ≡ value (registers_at v (key_number h.key) h.position.0 h.registers p)
    no_fault = rw (of_lane.0, parts.0, le-ltb rounds p q, parts.1)

    pub is_value : (a : Result ℕ Refusal) → outcome a ≡ registers_answer v (key_number h.key) h.position.0 p h.registers
        → a ≡ Ok (registers_at v (key_number h.key) h.position.0 h.registers p)
    is_value (Ok x) e = let g = e ∙ no_fault in cc
    is_value (Err r) e = let g = e ∙ no_fault in cc

pub held_in : (v : ℕ) {l : Option Loaded} {h : Loaded} → l ≡ Some h → SoundLane v l → h.position.0 ≤ rounds
held_in v {h = h} e s = position_in v h (held v e s)

-- ---- all lanes of a bench in which check 1 finds no fault

lane_faults : (v : ℕ) (x : LaneView) (xs : List LaneView) → (bench_check v (x ∷ xs)).fault ≡ false → ((bench_check v (x ∷ [])).fault ≡ false) × ((bench_check v xs).fault ≡ false)
unfolding any_lane_fault
lane_faults v x xs e =
    let a = neither (variant_check v).fault (lane_fault v x || any_lane_fault v xs) e in
    let b = neither (lane_fault v x) (any_lane_fault v xs) a.1 in
    (rw (a.0, b.0), rw a.0 b.1)

module _ (v : ℕ) (m : Motion) where
  all_stepped : (mask : ℕ) (ss : List (Option Loaded)) → (bench_check v (map lane_view ss)).fault ≡ false → step_slots (step_lane v m) mask ss ≡ step_slots (lane_as v m) mask ss
  unfolding step_slots step_lane
  all_stepped mask [] e = refl
  all_stepped mask (s ∷ ss) e =
      let f = lane_faults v (lane_view s) (map lane_view ss) e in
      ap₂ ◌∷◌ (rw f.0) (all_stepped (mask / 2) ss f.1)

  all_moved : (mask : ℕ) (ss : List (Option Loaded)) → (bench_check v (map lane_view ss)).fault ≡ false → moved_slots (move_lane v m) mask ss ≡ moved_slots (moved_as m) mask ss
  unfolding moved_slots move_lane
  all_moved mask [] e = refl
  all_moved mask (s ∷ ss) e =
      let f = lane_faults v (lane_view s) (map lane_view ss) e in
      ap₂ ◌+◌ (rw f.0) (all_moved (mask / 2) ss f.1)

-- so all named lanes move
pub all_step : (b : Bench) (m : Motion) (mask : ℕ) → SoundBench b → (r : Bench) (t : ℕ)
    → (r ≡ with_slots b (step_slots (step_lane b.variant m) mask b.slots)) × (t ≡ moved_slots (move_lane b.variant m) mask b.slots)
    → (r ≡ with_slots b (step_slots (lane_as b.variant m) mask b.slots)) × (t ≡ moved_slots (moved_as m) mask b.slots)
all_step b m mask sound r t e = (e.0 ∙ ap (with_slots b) (all_stepped b.variant m mask b.slots sound), e.1 ∙ all_moved b.variant m mask b.slots sound)

-- a clear moves no lane
still : (b : Bool) → pick b 0 0 + 0 ≡ 0
still true = refl
still false = refl

pub none_moved : (m : ℕ) (ss : List (Option Loaded)) → moved_slots (moved_as Clear) m ss ≡ 0
unfolding moved_slots
none_moved m [] = refl
none_moved m (s ∷ ss) = rw (none_moved (m / 2) ss) (still (eqb (m % 2) 1))
