-- For code over these definitions: one turn of each loop, a lane's view, a read.
-- Assumes nothing.
use mathlib.Core.Path.{◌≡◌, refl}
use Rattle.std.specs.Prelude.{Option, None}
use mathlib.Core.Bool.{false, ◌||◌}
use mathlib.Core.List.{List, [], ◌∷◌, ◌++◌, map, append_assoc}
use Prim.Native.Nat.{ℕ, suc, ◌+◌, ◌/◌, ◌%◌, ◌<◌}
use native.Mathlib.Numerals.{add-one}
use native.Mathlib.Omega.{arith}
use borrow.Author.Tests.{lt-leb}
use lib.ListN.{length, get_or, take, drop, set, get_or-map}
use lib.Seq.{drop-cons, take-suc-set, drop-set-lt}
use Rattle.std.specs.List.{list_any}
use Rattle.katan.specs.Sizes.{lane_count}
use Rattle.bench.specs.declared.Loaded.{Loaded}
use Rattle.bench.specs.declared.Bench.{Bench}
use Rattle.bench.specs.Checks.{LaneView, empty_lane, loaded_lane, lane_fault, any_lane_fault, is_empty, read_checks, lane_answer, read_outcome}
use Rattle.bench.specs.Bench.{lane_view, lanes_of, held_check, read_of}
use Rattle.bench.specs.Steps.{step_slots, moved_slots}
use Rattle.bench.specs.inner.Slots.{step_slot, moved_slot}

-- ---- check 1 over the lanes

pub any_fault : (v : ℕ) (ss : List (Option Loaded)) → list_any (λ l. lane_fault v (lane_view l)) ss ≡ any_lane_fault v (map lane_view ss)
unfolding any_lane_fault
any_fault v [] = refl
any_fault v (s ∷ ss) = rw (any_fault v ss)

pub faults_on : (v : ℕ) (ss : List (Option Loaded)) (i : ℕ) → i < length ss
    → any_lane_fault v (map lane_view (drop i ss)) ≡ (lane_fault v (lane_view (get_or ss i None)) || any_lane_fault v (map lane_view (drop (i + 1) ss)))
unfolding any_lane_fault
faults_on v ss i h = rw (add-one, drop-cons ss i None h)

-- ---- a step over the slots, with m what is left of the mask

module _ (ss : List (Option Loaded)) (i m : ℕ) (x : Option Loaded) (h : i < length ss) where
  pub steps_on : (f : Option Loaded → Option Loaded) → x ≡ step_slot f (m % 2) (get_or ss i None)
      → take (i + 1) (set ss i x) ++ step_slots f (m / 2) (drop (i + 1) (set ss i x)) ≡ take i ss ++ step_slots f m (drop i ss)
  unfolding step_slots
  steps_on f e =
      let lt : i < suc i = omega arith in
      simp (add-one, take-suc-set ss i x h, drop-set-lt (suc i) ss i x lt, append_assoc, drop-cons ss i None h) (simp e)

  pub total_on : (f : Option Loaded → ℕ) (n : ℕ) → n ≡ moved_slot f (m % 2) (get_or ss i None)
      → n + moved_slots f (m / 2) (drop (i + 1) (set ss i x)) ≡ moved_slots f m (drop i ss)
  unfolding moved_slots
  total_on f n e =
      let lt : i < suc i = omega arith in
      simp (add-one, drop-set-lt (suc i) ss i x lt, drop-cons ss i None h) (simp e)

-- ---- a lane at its place

pub slot_at : (ss : List (Option Loaded)) (i : ℕ) → get_or (map lane_view ss) i empty_lane ≡ lane_view (get_or ss i None)
slot_at ss i = get_or-map lane_view ss i None

-- ---- a read

-- of a sound bench, it answers by the lane
module _ (b : Bench) (i : ℕ) (sound : (held_check b).fault ≡ false) (h : i < lane_count) where
  as_seen : (x : LaneView) → get_or (lanes_of b) i empty_lane ≡ x → read_of b i ≡ lane_answer x
  unfolding read_of read_outcome read_checks is_empty lane_answer
  as_seen empty_lane e = rw (sound, lt-leb lane_count i h, e)
  as_seen (loaded_lane r) e = rw (sound, lt-leb lane_count i h, e)

  pub read_of_lane : read_of b i ≡ lane_answer (get_or (lanes_of b) i empty_lane)
  read_of_lane = as_seen (get_or (lanes_of b) i empty_lane) refl
