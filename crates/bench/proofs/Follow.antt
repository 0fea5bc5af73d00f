-- A lane follows a machine, slots follow machines one by one, and a counted record keeps it so.
-- Assumes nothing.
use mathlib.Core.Path.{◌≡◌, refl, sym, ap, ap₂, subst, ◌∙◌}
use mathlib.Core.Bool.{Bool, true, false}
use mathlib.Core.List.{List, [], ◌∷◌, map}
use Prim.Native.Nat.{ℕ, zero, suc, ◌+◌, ◌/◌, ◌^◌, ◌<◌, ◌≤◌}
use native.Mathlib.Nat.{div-one, div-div-eq-div-mul, pow-suc, zero-add}
use native.Mathlib.Omega.{arith}
use lib.Dec.{eqb}
use lib.ListN.{get_or, set, replicate}
use borrow.Author.Tests.{ltb-false, le-ltb, lt-leb, eq-eqb, ne_eqb}
use Rattle.katan.specs.Bit.{bit, pick}
use Rattle.katan.specs.Counter.{rounds}
use Rattle.katan.specs.Key.{key_number, key_of}
use Rattle.katan.specs.Variant.{width_of}
use Rattle.katan.specs.declared.Key.{Key}
use Rattle.katan.specs.Machine.{registers_at}
use Rattle.katan.proofs.KeyNumbers.{number_of_key}
use Rattle.katan.proofs.Positions.{at_in, at_load, at_join}
use Rattle.bench_record.specs.declared.Record.{Record}
use Rattle.bench_record.specs.Fields.{Kind, load, forward, back, clear, other, kind, names_as, names}
use Rattle.bench_record.specs.Checks.{wrong_count}
use Rattle.bench.specs.declared.Loaded.{Loaded}
use Rattle.std.specs.Prelude.{Option, Some, None}
use Rattle.bench.specs.Machine.{Machine, empty, loaded, step_as, moved_as, step_all, total_of}
use Rattle.bench.specs.Checks.{loaded_lane, lane_fault, any_lane_fault}
use Rattle.bench.specs.Model.{machine_view}
use Rattle.bench.specs.Bench.{lane_view}
use Rattle.bench.specs.Steps.{loaded_by, loaded_at, forward_lane, back_lane, forward_moved, back_moved, step_slots, moved_slots, slots_as, total_as}

half : (m i : ℕ) → m / 2 ^ i / 2 ≡ m / 2 ^ suc i
half m i = rw (div-div-eq-div-mul, ← pow-suc)

module _ (v : ℕ) where
  pub record Holds (h : Loaded) (k b q p : ℕ) : Type 0 where
    pub same_key : h.key ≡ key_of k
    pub same_place : h.position.0 ≡ p
    pub same_state : h.registers ≡ registers_at v k q b p
    pub in_range : p ≤ rounds
    pub small : b < 2 ^ width_of v

  abbrev pub Follows : Option Loaded → Machine → Type 0
  Follows None empty = Unit {0}
  Follows None (loaded k b q p) = ⊥
  Follows (Some h) empty = ⊥
  Follows (Some h) (loaded k b q p) = Holds h k b q p

  abbrev pub AllFollow : List (Option Loaded) → List Machine → Type 0
  AllFollow [] [] = Unit {0}
  AllFollow [] (m ∷ ms) = ⊥
  AllFollow (s ∷ ss) [] = ⊥
  AllFollow (s ∷ ss) (m ∷ ms) = Follows s m × AllFollow ss ms

  -- ---- a lane's view is its machine's

  same_view : (l : Option Loaded) (m : Machine) → Follows l m → lane_view l ≡ machine_view v m
  unfolding machine_view
  same_view None empty f = refl
  same_view None (loaded k b q p) f = absurd f
  same_view (Some h) empty f = absurd f
  same_view (Some h) (loaded k b q p) f =
      ap₂ (λ (a x : ℕ). loaded_lane (record { position = record { 0 = a }; registers = x })) f.same_place f.same_state

  pub same_views : (ss : List (Option Loaded)) (ms : List Machine) → AllFollow ss ms → map lane_view ss ≡ map (machine_view v) ms
  same_views [] [] f = refl
  same_views [] (m ∷ ms) f = absurd f
  same_views (s ∷ ss) [] f = absurd f
  same_views (s ∷ ss) (m ∷ ms) f = cc (same_view s m f.0, same_views ss ms f.1)

  pub view_at : (ss : List (Option Loaded)) (ms : List Machine) → AllFollow ss ms → (i : ℕ) → lane_view (get_or ss i None) ≡ machine_view v (get_or ms i empty)
  view_at [] [] f i = same_view None empty tt
  view_at [] (m ∷ ms) f i = absurd f
  view_at (s ∷ ss) [] f i = absurd f
  view_at (s ∷ ss) (m ∷ ms) f zero = same_view s m f.0
  view_at (s ∷ ss) (m ∷ ms) f (suc i) = view_at ss ms f.1 i

  -- ---- and lanes that follow the same machine are the same, keys included

  abbrev holding : Key → (position registers : ℕ) → Loaded
  holding key p x = record { key = key; position = record { 0 = p }; registers = x }

  held_is : (h : Loaded) (k b q p : ℕ) → Holds h k b q p → h ≡ holding (key_of k) p (registers_at v k q b p)
  held_is h k b q p f = ap₂ (λ (key : Key) (place : ℕ). holding key place h.registers) f.same_key f.same_place ∙ ap (holding (key_of k) p) f.same_state

  same_lane : (l o : Option Loaded) (m : Machine) → Follows l m → Follows o m → l ≡ o
  same_lane None None m f e = refl
  same_lane None (Some g) empty f e = absurd e
  same_lane None (Some g) (loaded k b q p) f e = absurd f
  same_lane (Some h) o empty f e = absurd f
  same_lane (Some h) None (loaded k b q p) f e = absurd e
  same_lane (Some h) (Some g) (loaded k b q p) f e = ap Some (held_is h k b q p f ∙ sym (held_is g k b q p e))

  pub same_slots : (ss ts : List (Option Loaded)) (ms : List Machine) → AllFollow ss ms → AllFollow ts ms → ss ≡ ts
  same_slots [] [] [] f e = refl
  same_slots [] [] (m ∷ ms) f e = absurd f
  same_slots [] (t ∷ ts) [] f e = absurd e
  same_slots [] (t ∷ ts) (m ∷ ms) f e = absurd f
  same_slots (s ∷ ss) ts [] f e = absurd f
  same_slots (s ∷ ss) [] (m ∷ ms) f e = absurd e
  same_slots (s ∷ ss) (t ∷ ts) (m ∷ ms) f e =
      ap₂ (λ (l : Option Loaded) (rest : List (Option Loaded)). l ∷ rest) (same_lane s t m f.0 e.0) (same_slots ss ts ms f.1 e.1)

  -- ---- and never meets 1

  no_fault : (l : Option Loaded) (m : Machine) → Follows l m → lane_fault v (machine_view v m) ≡ false
  unfolding lane_fault machine_view
  no_fault l empty f = refl
  no_fault None (loaded k b q p) f = absurd f
  no_fault (Some h) (loaded k b q p) f =
      rw (le-ltb rounds p f.in_range, lt-leb (2 ^ width_of v) (registers_at v k q b p) (at_in v k q b p f.small))

  pub no_faults : (ss : List (Option Loaded)) (ms : List Machine) → AllFollow ss ms → any_lane_fault v (map (machine_view v) ms) ≡ false
  unfolding any_lane_fault
  no_faults [] [] f = refl
  no_faults [] (m ∷ ms) f = absurd f
  no_faults (s ∷ ss) [] f = absurd f
  no_faults (s ∷ ss) (m ∷ ms) f = rw (no_fault s m f.0, no_faults ss ms f.1)

  pub fresh_follow : (n : ℕ) → AllFollow (replicate n None) (replicate n empty)
  fresh_follow zero = tt
  fresh_follow (suc n) = (tt, fresh_follow n)

  -- ---- a lane's step, kind by kind

  carried : (h : Loaded) (k b q p to at : ℕ) → Holds h k b q p → to ≡ at → at ≤ rounds → Holds (loaded_at v h to) k b q at
  unfolding loaded_at
  carried h k b q p to at f e le =
      record { same_key = f.same_key; same_place = e; same_state = cc (at_join v k q b p at f.small, number_of_key k); in_range = le; small = f.small }

  module _ (r : Record) where
    step_forward : (l : Option Loaded) (m : Machine) → Follows l m → Follows (forward_lane v r.count l) (step_as forward r m)
    unfolding forward_lane step_as
    step_forward None empty f = tt
    step_forward None (loaded k b q p) f = absurd f
    step_forward (Some h) empty f = absurd f
    step_forward (Some h) (loaded k b q p) f = carried h k b q p _ _ f (omega arith) (omega arith)

    step_back : (l : Option Loaded) (m : Machine) → Follows l m → Follows (back_lane v r.count l) (step_as back r m)
    unfolding back_lane step_as
    step_back None empty f = tt
    step_back None (loaded k b q p) f = absurd f
    step_back (Some h) empty f = absurd f
    step_back (Some h) (loaded k b q p) f = carried h k b q p _ _ f (omega arith) (omega arith)

    step_clear : (l : Option Loaded) (m : Machine) → Follows l m → Follows None (step_as clear r m)
    unfolding step_as
    step_clear l m f = tt

    moved_forward : (l : Option Loaded) (m : Machine) → Follows l m → forward_moved r.count l ≡ moved_as forward r m
    unfolding forward_moved moved_as
    moved_forward None empty f = refl
    moved_forward None (loaded k b q p) f = absurd f
    moved_forward (Some h) empty f = absurd f
    moved_forward (Some h) (loaded k b q p) f = omega arith

    moved_back : (l : Option Loaded) (m : Machine) → Follows l m → back_moved r.count l ≡ moved_as back r m
    unfolding back_moved moved_as
    moved_back None empty f = refl
    moved_back None (loaded k b q p) f = absurd f
    moved_back (Some h) empty f = absurd f
    moved_back (Some h) (loaded k b q p) f = omega arith

  -- ---- the lanes that a mask names

  module _ (r : Record) (named : (i : ℕ) → names r i ≡ eqb (bit r.mask i) 1) where
    module _ (f : Option Loaded → Option Loaded) (on : (l : Option Loaded) (m : Machine) → Follows l m → Follows (f l) (step_as (kind r) r m)) where
      one_step : (b : Bool) (x : Option Loaded) (m : Machine) → Follows x m
          → Follows (pick b (f x) x) (pick b (step_as (kind r) r m) m)
      one_step true x m h = on x m h
      one_step false x m h = h

      mask_steps : (ss : List (Option Loaded)) (ms : List Machine) (i : ℕ) → AllFollow ss ms → AllFollow (step_slots f (r.mask / 2 ^ i) ss) (step_all r i ms)
      unfolding step_slots step_all
      mask_steps [] [] i h = tt
      mask_steps [] (m ∷ ms) i h = absurd h
      mask_steps (x ∷ ss) [] i h = absurd h
      mask_steps (x ∷ ss) (m ∷ ms) i h =
          let is_named : Bool = eqb (bit r.mask i) 1 in (
            subst (λ (b : Bool). Follows (pick is_named (f x) x) (pick b (step_as (kind r) r m) m)) (sym (named i)) (one_step is_named x m h.0),
            rw half (mask_steps ss ms (suc i) h.1),
          )

    module _ (g : Option Loaded → ℕ) (goes : (l : Option Loaded) (m : Machine) → Follows l m → g l ≡ moved_as (kind r) r m) where
      mask_total : (ss : List (Option Loaded)) (ms : List Machine) (i : ℕ) → AllFollow ss ms → moved_slots g (r.mask / 2 ^ i) ss ≡ total_of r i ms
      unfolding moved_slots total_of
      mask_total [] [] i h = refl
      mask_total [] (m ∷ ms) i h = absurd h
      mask_total (x ∷ ss) [] i h = absurd h
      mask_total (x ∷ ss) (m ∷ ms) i h = rw (named i, goes x m h.0, half, mask_total ss ms (suc i) h.1)

  no_total : (r : Record) → ((m : Machine) → moved_as (kind r) r m ≡ 0) → (ms : List Machine) (i : ℕ) → total_of r i ms ≡ 0
  unfolding total_of
  no_total r none [] i = refl
  no_total r none (m ∷ ms) i = rw (none m, no_total r none ms (suc i)) (go (names r i))
    where
      go : (b : Bool) → pick b 0 0 + 0 ≡ 0
      go true = refl
      go false = refl

  -- ---- the lane that a load names

  -- where no lane from i on is named nothing changes
  unnamed : (r : Record) (ss : List (Option Loaded)) (ms : List Machine) (i : ℕ) → ((j : ℕ) → i ≤ j → names r j ≡ false) → AllFollow ss ms → AllFollow ss (step_all r i ms)
  unfolding step_all
  unnamed r [] [] i none h = tt
  unnamed r [] (m ∷ ms) i none h = absurd h
  unnamed r (y ∷ ss) [] i none h = absurd h
  unnamed r (y ∷ ss) (m ∷ ms) i none h = rw (none i (omega arith)) (h.0, unnamed r ss ms (suc i) (λ j le. none j (omega arith)) h.1)

  module _ (r : Record) (x : Option Loaded) (on : (m : Machine) → Follows x (step_as (kind r) r m)) (named : (i : ℕ) → names r i ≡ eqb i r.lane) where
    load_step : (ss : List (Option Loaded)) (ms : List Machine) (i k : ℕ) → i + k ≡ r.lane → AllFollow ss ms → AllFollow (set ss k x) (step_all r i ms)
    unfolding step_all
    load_step [] [] i k e h = tt
    load_step [] (m ∷ ms) i k e h = absurd h
    load_step (y ∷ ss) [] i k e h = absurd h
    load_step (y ∷ ss) (m ∷ ms) i zero e h =
        rw (named i, eq-eqb i r.lane (omega arith)) (on m, unnamed r ss ms (suc i) (λ j le. named j ∙ ne_eqb j r.lane (λ q. omega arith)) h.1)
    load_step (y ∷ ss) (m ∷ ms) i (suc k) e h =
        rw (named i, ne_eqb i r.lane (λ q. omega arith)) (h.0, load_step ss ms (suc i) k (omega arith) h.1)

  load_holds : (r : Record) → r.key ≡ key_of (key_number r.key) → r.count ≤ rounds → r.block < 2 ^ width_of v
      → Holds (loaded_by r) (key_number r.key) r.block r.count r.count
  unfolding loaded_by
  load_holds r k c b =
      record {
        same_key = k;
        same_place = refl;
        same_state = sym (at_load v (key_number r.key) r.count r.block);
        in_range = c;
        small = b;
      }

  -- ---- a counted record

  module _ (r : Record) (ss : List (Option Loaded)) (ms : List Machine) (h : AllFollow ss ms) where
    pub counted_slots : (k : Kind) → kind r ≡ k → r.key ≡ key_of (key_number r.key) → wrong_count k r.count ≡ false → r.block < 2 ^ width_of v
        → AllFollow (slots_as v k r ss) (step_all r 0 ms)
    unfolding slots_as names_as step_as wrong_count
    counted_slots load e own six b =
        load_step r (Some (loaded_by r)) (λ m. rw e (load_holds r own (ltb-false rounds r.count six) b)) (λ i. rw e) ss ms 0 r.lane (zero-add r.lane) h
    counted_slots forward e own six b = rw div-one at (mask_steps r (λ i. rw e) (forward_lane v r.count) (λ l m f. rw e (step_forward r l m f)) ss ms 0 h)
    counted_slots back e own six b = rw div-one at (mask_steps r (λ i. rw e) (back_lane v r.count) (λ l m f. rw e (step_back r l m f)) ss ms 0 h)
    counted_slots clear e own six b = rw div-one at (mask_steps r (λ i. rw e) (λ l. None) (λ l m f. rw e (step_clear r l m f)) ss ms 0 h)
    counted_slots other e own six b = unnamed r ss ms 0 (λ i le. rw e) h

    pub counted_total : (k : Kind) → kind r ≡ k → total_as k r ss ≡ total_of r 0 ms
    unfolding total_as names_as moved_as
    counted_total load e = sym (no_total r (λ m. rw e) ms 0)
    counted_total forward e = rw div-one at (mask_total r (λ i. rw e) (forward_moved r.count) (λ l m f. rw e (moved_forward r l m f)) ss ms 0 h)
    counted_total back e = rw div-one at (mask_total r (λ i. rw e) (back_moved r.count) (λ l m f. rw e (moved_back r l m f)) ss ms 0 h)
    counted_total clear e = sym (no_total r (λ m. rw e) ms 0)
    counted_total other e = sym (no_total r (λ m. rw e) ms 0)
