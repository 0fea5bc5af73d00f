-- THEOREMS: a driver's memory is opened as the fresh bench and link, its arrivals, reads and previews are those of a list, and a screen is of the bench
-- that it says.
-- Assumes nothing.
use Rattle.std.proofs.Common.{Option, None}
use Rattle.bench.specs.declared.Loaded.{Loaded}
use mathlib.Core.Path.{◌≡◌, refl, sym, ap, ◌∙◌}
use mathlib.Core.Bool.{Bool, true, false, not}
use mathlib.Core.List.{List, [], ◌∷◌}
use Prim.Native.Nat.{ℕ, zero, suc, ◌≤◌}
use native.Mathlib.Omega.{arith}
use lib.ListN.{length, get_or, replicate, length-replicate}
use borrow.Author.Tests.{eq-eqb}
use Rattle.katan.specs.Bit.{AreBytes}
use Rattle.katan.specs.Checks.{Outcome, value, refused, checked, size_check}
use Rattle.katan.specs.Lent.{status_of, lent_after}
use Rattle.katan.specs.Sizes.{lane_count}
use Rattle.katan.proofs.Checked.{fault_later, checked_append, check_twice}
use Rattle.katan.proofs.Variants.{variant_sound}
use Rattle.bench.specs.Calls.{Answer}
use Rattle.bench_record.specs.Checks.{lane_check}
use Rattle.bench.specs.Checks.{empty_lane, empty_check, read_checks, Turn, counts, repeats, decision, lane_answer, read_outcome}
use Rattle.bench.specs.Bench.{fresh_bench, fresh_link, lanes_of, bench_view, held_check, counted_effect, effect_as, arrive_of, read_of}
use Rattle.driver_layout.specs.Layout.{bench_length, link_length, bench_in, link_in, bench_bytes, link_bytes}
use Rattle.driver_reads.specs.Calls.{read_call}
use Rattle.driver_bench.specs.Calls.{open_call, opened_bench, opened_link, arrival_words, if_counted, arrive_effect, arrive_checks, arrive_call, preview_call}
use Rattle.driver_layout.specs.ReadBack.{SlotsFit, BenchFits, LinkFits}
use Rattle.driver_layout.proofs.ReadBack.{bench_read_back, link_read_back}
use Rattle.driver_layout.proofs.Fits.{bench_in_fits, link_in_fits}
use Rattle.driver_reads.proofs.Screens.{as_screen, as_numbers}
use Rattle.driver_bench.proofs.Held.{refused_1}
use Rattle.driver_memory.specs.Follows.{EveryOpening, Arrives, EveryArrival, EveryRead, EveryScreen, EveryPreview}
use Rattle.driver_memory.proofs.Fits.{effect_fits}

-- ---- opening

fresh_lanes : (n : ℕ) → SlotsFit (replicate n None)
fresh_lanes zero = tt
fresh_lanes (suc n) = (tt, fresh_lanes n)

pub fresh_bench_fits : (v : ℕ) → BenchFits (fresh_bench v)
fresh_bench_fits v = record { all_lanes = length-replicate {0} {A = Option Loaded} lane_count None; lanes_fit = fresh_lanes lane_count }

pub fresh_link_fits : LinkFits fresh_link
fresh_link_fits = record { last_fits = omega arith; total_fits = omega arith; whole_record = refl }

module _ (v : ℕ) (least : 1 ≤ v) (most : v ≤ 6) (bench link : List ℕ) (n : length bench ≡ bench_length) (m : length link ≡ link_length) where
  opened : open_call v bench link ≡ value tt
  opened = rw (variant_sound v least most, eq-eqb _ _ n, eq-eqb _ _ m)

  pub opened-bench : opened_bench v bench link ≡ bench_bytes (fresh_bench v) bench
  opened-bench = ap (λ (o : Outcome (Unit {0})). lent_after (λ x. bench_bytes (fresh_bench v) bench) o bench) opened

  pub opened-link : opened_link v bench link ≡ link_bytes fresh_link
  opened-link = ap (λ (o : Outcome (Unit {0})). lent_after (λ x. link_bytes fresh_link) o link) opened

pub every_opening : EveryOpening
every_opening v least most bench link n m =
    record {
      accepted = ap status_of (opened v least most bench link n m);
      fresh-bench = ap bench_in (opened-bench v least most bench link n m) ∙ bench_read_back (fresh_bench v) bench (fresh_bench_fits v) n;
      fresh-link = ap link_in (opened-link v least most bench link n m) ∙ link_read_back fresh_link fresh_link_fits;
    }

-- ---- an arrival

module _ (bench link sent : List ℕ) where
  leaves : length bench ≡ bench_length → (o : Outcome Turn) → let e = effect_as o (bench_in bench) (link_in link) sent in BenchFits e.bench → LinkFits e.link
      → (bench_in (if_counted e.answer (bench_bytes e.bench bench) bench) ≡ e.bench) × (link_in (if_counted e.answer (link_bytes e.link) link) ≡ e.link)
  unfolding effect_as counted_effect
  leaves n (value counts) f g = (bench_read_back _ bench f n, link_read_back _ g)
  leaves n (value repeats) f g = (refl, refl)
  leaves n (refused k) f g = (refl, refl)

  effect_leaves : length bench ≡ bench_length → let e = arrive_of (bench_in bench) (link_in link) sent in BenchFits e.bench → LinkFits e.link
      → (bench_in (if_counted e.answer (bench_bytes e.bench bench) bench) ≡ e.bench) × (link_in (if_counted e.answer (link_bytes e.link) link) ≡ e.link)
  unfolding arrive_of
  effect_leaves n f g = leaves n (decision (bench_view (bench_in bench) (link_in link)) sent) f g

  same : (answer : List ℕ) → length bench ≡ bench_length → length link ≡ link_length → length answer ≡ arrival_words → (t : Bool) → (held_check (bench_in bench)).fault ≡ t
      → arrive_call bench link sent answer ≡ (arrive_effect bench link sent answer).answer
  unfolding arrive_call
  same answer n m k true e = rw (eq-eqb _ _ n, e) (sym (refused_1 (bench_in bench) (link_in link) sent e))
  same answer n m k false e = rw (eq-eqb _ _ n, e, eq-eqb _ _ m, eq-eqb _ _ k)

-- where the bench and the link that the memory says fit
pub arrives : (bench link sent answer : List ℕ) → length bench ≡ bench_length → length link ≡ link_length → length answer ≡ arrival_words
    → BenchFits (bench_in bench) → LinkFits (link_in link) → AreBytes sent → Arrives bench link sent answer
arrives bench link sent answer n m k f g h =
    let e = arrive_effect bench link sent answer in
    let s = same bench link sent answer n m k (held_check (bench_in bench)).fault refl in
    let fits = effect_fits (bench_in bench) (link_in link) sent f g h in
    let l = effect_leaves bench link sent n fits.0 fits.1 in
    record {
      same_answer = s;
      same_bench = ap (λ (o : Answer). bench_in (if_counted o (bench_bytes e.bench bench) bench)) s ∙ l.0;
      same_link = ap (λ (o : Answer). link_in (if_counted o (link_bytes e.link) link)) s ∙ l.1;
    }

pub every_arrival : EveryArrival
every_arrival bench link sent answer n m k f g h = arrives bench link sent answer n m k (bench_in_fits bench f) (link_in_fits link g) h

-- ---- a read

-- it looks for 1 once more
pub every_read : EveryRead
unfolding read_call read_of read_outcome read_checks
every_read bench i answer n k =
    let lane = get_or (lanes_of (bench_in bench)) i empty_lane in
    rw (eq-eqb _ _ n, eq-eqb _ _ k) (check_twice (held_check (bench_in bench)) (lane_check i ∷ empty_check lane ∷ []) (lane_answer lane))

-- ---- a screen

pub every_screen : EveryScreen
every_screen bench m out shown n k = record { same_mask = as_screen bench m out shown n k; same_numbers = as_numbers bench m out shown n k }

-- ---- a preview

pub every_preview : EveryPreview
unfolding preview_call arrive_call
every_preview bench link sent answer room n m =
    let a = (arrive_effect bench link sent answer).answer in
    record {
      same_call = checked_append (arrive_checks bench link sent answer) (size_check bench_length room ∷ []) a ∙ ap (checked (arrive_checks bench link sent answer)) (fault_later (size_check bench_length room) [] a (ap not (eq-eqb _ _ m)));
      same_memory = rw (eq-eqb _ _ n, eq-eqb _ _ m);
    }
