-- What a read answers, case by case.
-- Assumes nothing.
use Rattle.std.specs.Prelude.{Option, Some, None, Result, Ok, Err}
use Rattle.std.specs.Option.{ok_or}
use mathlib.Core.Path.{◌≡◌, refl, sym, ap, ◌∙◌}
use mathlib.Core.Bool.{true, false}
use Prim.Native.Nat.{ℕ, ◌≤◌, ◌<◌}
use lib.ListN.{get_or}
use borrow.Author.Tests.{le-leb}
use Rattle.katan.specs.Checks.{value, refused}
use Rattle.katan.specs.Sizes.{lane_count}
use Rattle.bench.specs.declared.Loaded.{Loaded}
use Rattle.bench.specs.declared.Bench.{Bench}
use Rattle.bench.specs.Calls.{at}
use Rattle.bench.specs.Checks.{read_checks, lane_answer, read_outcome}
use Rattle.bench.specs.Bench.{lane_view, held_check, read_of}
use Rattle.bench.proofs.Loops.{slot_at, read_of_lane}

-- ---- a value in place of none, or a refusal

module _ {T E : Type 0} where
  pub none_there : (o : Option T) (e : E) {r : Result T E} {d : E} → r ≡ ok_or o e → r ≡ Err d → (o ≡ None) × (d ≡ e)
  none_there None e p q = let z = sym p ∙ q in (refl, cc)
  none_there (Some x) e p q = let z = sym p ∙ q in (cc, cc)

  pub some_there : (o : Option T) (e : E) {r : Result T E} {x : T} → r ≡ ok_or o e → r ≡ Ok x → o ≡ Some x
  some_there None e p q = let z = sym p ∙ q in cc
  some_there (Some y) e p q = let z = sym p ∙ q in cc

-- ---- the lane at the place that is looked up

pub lane_at : (b : Bench) {i : ℕ} (j : ℕ) {x : Option Loaded} → j ≡ i → get_or b.slots j None ≡ x → get_or b.slots i None ≡ x
lane_at b j e q = rw e at q

-- ---- the cases

module _ (b : Bench) (i : ℕ) where
  pub read_1 : (held_check b).fault ≡ true → refused 1 ≡ read_of b i
  unfolding read_of read_outcome read_checks
  read_1 e = rw e

  module _ (sound : (held_check b).fault ≡ false) where
    pub read_5 : lane_count ≤ i → refused 5 ≡ read_of b i
    unfolding read_of read_outcome read_checks
    read_5 h = rw (sound, le-leb lane_count i h)

    module _ (h : i < lane_count) {x : Option Loaded} (e : get_or b.slots i None ≡ x) where
      by_lane : lane_answer (lane_view x) ≡ read_of b i
      by_lane = sym (read_of_lane b i sound h ∙ ap lane_answer (slot_at b.slots i ∙ ap lane_view e))

    module _ (h : i < lane_count) where
      pub read_11 : get_or b.slots i None ≡ None → refused 11 ≡ read_of b i
      unfolding lane_answer
      read_11 e = by_lane h e

      pub read_at : (l : Loaded) → get_or b.slots i None ≡ Some l → value (at (record { position = l.position; registers = l.registers })) ≡ read_of b i
      unfolding lane_answer
      read_at l e = by_lane h e
