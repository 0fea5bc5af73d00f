-- An arrival of any bytes, on a bench and a link that fit, leaves a bench and a link that fit.
-- Assumes nothing.
use mathlib.Core.Path.{◌≡◌, refl, ap, ◌∙◌}
use mathlib.Core.Bool.{Bool, true, false}
use mathlib.Core.List.{List, [], ◌∷◌, map}
use Rattle.std.proofs.Common.{Option, Some, None}
use Prim.Native.Nat.{ℕ, zero, suc, ◌*◌, ◌/◌, ◌%◌, ◌^◌, ◌≤◌}
use native.Mathlib.Nat.{mul-le-mul_right}
use native.Mathlib.Omega.{arith}
use lib.Dec.{eqb}
use lib.ListN.{length, set, length-set}
use lib.Pow.{pow_mono}
use borrow.Author.Tests.{leb-false}
use Rattle.katan.specs.Bit.{pick, AreBytes}
use Rattle.katan.specs.Key.{key_number}
use Rattle.katan.specs.Variant.{width_of}
use Rattle.katan.specs.Checks.{Outcome, value, refused, variant_check, position_check, block_check}
use Rattle.katan.proofs.Undo.{sound}
use Rattle.katan.proofs.Positions.{at_in}
use Rattle.bench_record.specs.declared.Record.{Record}
use Rattle.bench_record.specs.Fields.{Kind, load, forward, back, clear, other, decode, kind}
use Rattle.bench_record.proofs.Parts.{number_below, key_below, block_below}
use Rattle.bench.specs.declared.Loaded.{Loaded}
use Rattle.bench.specs.declared.Bench.{Bench}
use Rattle.bench.specs.declared.Link.{Link}
use Rattle.bench.specs.Checks.{lane_fault, any_lane_fault, Turn, counts, repeats, decision}
use Rattle.bench.specs.Bench.{lane_view, bench_view, counted_effect, effect_as, arrive_of}
use Rattle.bench.specs.Steps.{loaded_by, loaded_at, forward_lane, back_lane, forward_moved, back_moved, step_slots, moved_slots, slots_as, total_as}
use Rattle.bench.proofs.Turns.{counts_next}
use Rattle.katan.proofs.Booleans.{neither}
use Rattle.bench_stepping.proofs.Effects.{counts_sound}
use Rattle.driver_layout.specs.ReadBack.{LaneFits, SlotsFit, BenchFits, LinkFits}

-- ---- a lane in which check 1 finds no fault, and its step

module _ (v : ℕ) where
  carried : (h : Loaded) (p : ℕ) → lane_fault v (lane_view (Some h)) ≡ false → LaneFits (Some h) → LaneFits (Some (loaded_at v h p))
  unfolding lane_fault loaded_at
  carried h p e f =
      let small = leb-false (2 ^ width_of v) h.registers (neither (position_check h.position.0).fault (block_check v h.registers).fault e).1 in
      (f.0, f.1, omega (arith, at_in v (key_number h.key) h.position.0 h.registers p small, pow_mono (sound v).n_fits))

  -- a step that leaves such a lane so that it fits
  abbrev Keeps : (Option Loaded → Option Loaded) → Type 0
  Keeps g = (l : Option Loaded) → lane_fault v (lane_view l) ≡ false → LaneFits l → LaneFits (g l)

  forward_keeps : (c : ℕ) → Keeps (forward_lane v c)
  unfolding forward_lane
  forward_keeps c None e f = tt
  forward_keeps c (Some h) e f = carried h _ e f

  back_keeps : (c : ℕ) → Keeps (back_lane v c)
  unfolding back_lane
  back_keeps c None e f = tt
  back_keeps c (Some h) e f = carried h _ e f

  -- ---- the lanes that a mask names

  module _ (g : Option Loaded → Option Loaded) (keeps : Keeps g) where
    one_keeps : (named : Bool) (s : Option Loaded) → lane_fault v (lane_view s) ≡ false → LaneFits s → LaneFits (pick named (g s) s)
    one_keeps true s e f = keeps s e f
    one_keeps false s e f = f

    steps_fit : (m : ℕ) (ss : List (Option Loaded)) → any_lane_fault v (map lane_view ss) ≡ false → SlotsFit ss → SlotsFit (step_slots g m ss)
    unfolding step_slots any_lane_fault
    steps_fit m [] e f = tt
    steps_fit m (s ∷ ss) e f =
        let n = neither (lane_fault v (lane_view s)) (any_lane_fault v (map lane_view ss)) e in
        (one_keeps (eqb (m % 2) 1) s n.0 f.0, steps_fit (m / 2) ss n.1 f.1)

length_steps : (g : Option Loaded → Option Loaded) (m : ℕ) (ss : List (Option Loaded)) → length (step_slots g m ss) ≡ length ss
unfolding step_slots
length_steps g m [] = refl
length_steps g m (s ∷ ss) = ap suc (length_steps g (m / 2) ss)

set_fits : (ss : List (Option Loaded)) (i : ℕ) (x : Option Loaded) → LaneFits x → SlotsFit ss → SlotsFit (set ss i x)
set_fits [] i x h f = tt
set_fits (s ∷ ss) zero x h f = (h, f.1)
set_fits (s ∷ ss) (suc i) x h f = (f.0, set_fits ss i x h f.1)

-- ---- the positions moved: in each lane at most the count

module _ (g : Option Loaded → ℕ) (c : ℕ) (most : (l : Option Loaded) → g l ≤ c) where
  one_moved : (named : Bool) (l : Option Loaded) → pick named (g l) 0 ≤ c
  one_moved true l = most l
  one_moved false l = omega arith

  moved_most : (m : ℕ) (ss : List (Option Loaded)) → moved_slots g m ss ≤ c * length ss
  unfolding moved_slots
  moved_most m [] = omega arith
  moved_most m (s ∷ ss) = omega (arith, one_moved (eqb (m % 2) 1) s, moved_most (m / 2) ss)

forward_most : (c : ℕ) (l : Option Loaded) → forward_moved c l ≤ c
unfolding forward_moved
forward_most c None = omega arith
forward_most c (Some h) = omega arith

back_most : (c : ℕ) (l : Option Loaded) → back_moved c l ≤ c
unfolding back_moved
back_most c None = omega arith
back_most c (Some h) = omega arith

total_most : (k : Kind) (r : Record) (ss : List (Option Loaded)) → total_as k r ss ≤ r.count * length ss
unfolding total_as
total_most load r ss = omega arith
total_most forward r ss = moved_most (forward_moved r.count) r.count (forward_most r.count) r.mask ss
total_most back r ss = moved_most (back_moved r.count) r.count (back_most r.count) r.mask ss
total_most clear r ss = omega arith
total_most other r ss = omega arith

-- ---- a counted record

length-counted : (v : ℕ) (k : Kind) (r : Record) (ss : List (Option Loaded)) → length (slots_as v k r ss) ≡ length ss
unfolding slots_as
length-counted v load r ss = length-set ss r.lane _
length-counted v forward r ss = length_steps _ r.mask ss
length-counted v back r ss = length_steps _ r.mask ss
length-counted v clear r ss = length_steps _ r.mask ss
length-counted v other r ss = refl

counted_fit : (v : ℕ) (k : Kind) (r : Record) (ss : List (Option Loaded)) → LaneFits (Some (loaded_by r)) → any_lane_fault v (map lane_view ss) ≡ false → SlotsFit ss
    → SlotsFit (slots_as v k r ss)
unfolding slots_as
counted_fit v load r ss h e f = set_fits ss r.lane _ h f
counted_fit v forward r ss h e f = steps_fit v (forward_lane v r.count) (forward_keeps v r.count) r.mask ss e f
counted_fit v back r ss h e f = steps_fit v (back_lane v r.count) (back_keeps v r.count) r.mask ss e f
counted_fit v clear r ss h e f = steps_fit v (λ l. None) (λ l d g. tt) r.mask ss e f
counted_fit v other r ss h e f = f

load_fits : (s : List ℕ) → AreBytes s → LaneFits (Some (loaded_by (decode s)))
unfolding loaded_by
load_fits s h = (omega arith, omega (arith, key_below s h), block_below s h)

module _ (b : Bench) (l : Link) (s : List ℕ) (f : BenchFits b) (g : LinkFits l) (h : AreBytes s) where
  as_decided : (o : Outcome Turn) → decision (bench_view b l) s ≡ o → BenchFits (effect_as o b l s).bench × LinkFits (effect_as o b l s).link
  unfolding effect_as counted_effect bench_view
  as_decided (value counts) e =
      let v = b.variant in
      let r = decode s in
      let no_fault = (neither (variant_check v).fault (any_lane_fault v (map lane_view b.slots)) (counts_sound b l s e)).1 in
      let most = total_most (kind r) r b.slots in
      let few = mul-le-mul_right (length b.slots) (h 2) in (
        record {
          all_lanes = length-counted v (kind r) r b.slots ∙ f.all_lanes;
          lanes_fit = counted_fit v (kind r) r b.slots (load_fits s h) no_fault f.lanes_fit;
        },
        record { last_fits = number_below s h; total_fits = omega (arith, f.all_lanes); whole_record = (counts_next (bench_view b l) s e).0.size },
      )
  as_decided (value repeats) e = (f, g)
  as_decided (refused k) e = (f, g)

  pub effect_fits : BenchFits (arrive_of b l s).bench × LinkFits (arrive_of b l s).link
  unfolding arrive_of
  effect_fits = as_decided (decision (bench_view b l) s) refl
