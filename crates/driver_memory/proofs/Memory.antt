-- Demand 3 in a driver's own memory: each call is a list's call or preview on the state that the memory says.
-- Assumes nothing.
use Rattle.std.proofs.Common.{None}
use mathlib.Core.Path.{◌≡◌, refl, ap, ap₂, ◌∙◌}
use mathlib.Core.List.{List, [], ◌∷◌, map, zip_with}
use Prim.Native.Nat.{ℕ, ◌≤◌}
use lib.ListN.{length, get_or}
use Rattle.katan.specs.Bit.{AreBytes}
use Rattle.katan.specs.Checks.{value, refused}
use Rattle.bench.specs.declared.Bench.{Bench}
use Rattle.bench.specs.declared.Link.{Link}
use Rattle.bench.specs.Calls.{done, again, at, Answer, state_after, answers_to}
use Rattle.bench.specs.Checks.{LaneView}
use Rattle.bench.specs.Bench.{fresh_bench, fresh_link, lane_view, lanes_of, State, fresh_state, bench_transition}
use Rattle.bench.specs.Claim.{bench_after}
use Rattle.bench.specs.Preview.{preview_of, EventAnswer, answered, previewed, bench_event, calls_of}
use Rattle.bench.proofs.Preview.{every_list_with_previews}
use Rattle.bench_screen.specs.Screen.{screen_answer, screen_numbers}
use Rattle.bench_screen.proofs.Theorems.{screen_after_every_list}
use Rattle.driver_layout.specs.Layout.{bench_length, link_length, bench_in, link_in}
use Rattle.driver_layout.specs.ReadBack.{BenchFits, LinkFits}
use Rattle.driver_layout.proofs.ReadBack.{length-bench, length-link}
use Rattle.driver_reads.specs.Calls.{reading_words}
use Rattle.driver_bench.specs.Calls.{arrival_words, if_counted, arrive_call}
use Rattle.driver_memory.specs.Follows.{Opens}
use Rattle.driver_memory.specs.Memory.{Memory, opened_memory, DriverCall, arrive, read, preview, lent_for, lanes_in, Returned, driver_transition, WellLent, without_previews, without_shown, event_of, returned_as, memory_after, EveryListInMemory, EveryScreenInMemory}
use Rattle.driver_memory.proofs.Fits.{effect_fits}
use Rattle.driver_memory.proofs.Follows.{fresh_bench_fits, fresh_link_fits, opened-bench, opened-link, every_opening, arrives, every_read, every_screen, every_preview}

-- ---- what memory keeps to, call by call

-- the state that it says
abbrev state-of : Bench → Link → State
state-of b l = record { bench = b; link = l }

abbrev state_in : Memory → State
state_in m = state-of (bench_in m.bench) (link_in m.link)

record Sound (m : Memory) : Type 0 where
  bench_size : length m.bench ≡ bench_length
  link_size : length m.link ≡ link_length
  bench_fits : BenchFits (bench_in m.bench)
  link_fits : LinkFits (link_in m.link)

-- a call is a list's call or preview on that state
record SameCall (m : Memory) (c : DriverCall) : Type 0 where
  return : (driver_transition m c).1 ≡ returned_as (bench_event (state_in m) (event_of c)).1 (lent_for c)
  state : state_in (driver_transition m c).0 ≡ (bench_event (state_in m) (event_of c)).0
  next : Sound (driver_transition m c).0

-- ---- an arrival, a read and a preview

either_size : (n : ℕ) (a : Answer) (new old : List ℕ) → length new ≡ n → length old ≡ n → length (if_counted a new old) ≡ n
either_size n (value (done x t)) new old e f = e
either_size n (value (again x t)) new old e f = f
either_size n (value (at r)) new old e f = f
either_size n (refused k) new old e f = f

module _ (m : Memory) (k : Sound m) where
  same_arrival : (sent answer : List ℕ) → AreBytes sent → length answer ≡ arrival_words → SameCall m (arrive sent answer)
  unfolding driver_transition bench_event bench_transition
  same_arrival sent answer h n =
      let a = arrives m.bench m.link sent answer k.bench_size k.link_size n k.bench_fits k.link_fits h in
      let f = effect_fits (bench_in m.bench) (link_in m.link) sent k.bench_fits k.link_fits h in
      let o = arrive_call m.bench m.link sent answer in
      record {
        return = ap (λ (x : Answer). returned_as (answered x) answer) a.same_answer;
        state = ap₂ state-of a.same_bench a.same_link;
        next =
            record {
              bench_size = either_size bench_length o _ m.bench (length-bench _ m.bench f.0 k.bench_size) k.bench_size;
              link_size = either_size link_length o _ m.link (length-link _ f.1) k.link_size;
              bench_fits = rw a.same_bench f.0;
              link_fits = rw a.same_link f.1;
            };
      }

  same_read : (lane : ℕ) (answer : List ℕ) → length answer ≡ reading_words → SameCall m (read lane answer)
  unfolding driver_transition bench_event bench_transition
  same_read lane answer n =
      record { return = ap (λ (x : Answer). returned_as (answered x) answer) (every_read m.bench lane answer k.bench_size n); state = refl; next = k }

  same_preview : (sent answer room : List ℕ) → AreBytes sent → length answer ≡ arrival_words → length room ≡ bench_length → SameCall m (preview sent answer room)
  unfolding driver_transition bench_event preview_of
  same_preview sent answer room h n z =
      let a = arrives m.bench m.link sent answer k.bench_size k.link_size n k.bench_fits k.link_fits h in
      let p = every_preview m.bench m.link sent answer room k.bench_size z in
      record {
        return =
            ap₂ (λ (x : Answer) (lanes : List LaneView). returned_as (previewed x lanes) answer) (p.same_call ∙ a.same_answer)
            (ap lanes_in p.same_memory ∙ ap lanes_of a.same_bench);
        state = refl;
        next = k;
      }

-- ---- a list of calls

-- what the list's calls return, and leave, from a state
abbrev returns_from : List DriverCall → State → List Returned
returns_from calls x = zip_with returned_as (answers_to bench_event x (map event_of calls)) (map lent_for calls)

abbrev state_from : List DriverCall → State → State
state_from calls x = state_after bench_event x (map event_of calls)

record SameCalls (m : Memory) (calls : List DriverCall) : Type 0 where
  returns : answers_to driver_transition m calls ≡ returns_from calls (state_in m)
  state : state_in (state_after driver_transition m calls) ≡ state_from calls (state_in m)
  sound : Sound (state_after driver_transition m calls)

one_more : (m : Memory) (c : DriverCall) (calls : List DriverCall) → SameCall m c → SameCalls (driver_transition m c).0 calls → SameCalls m (c ∷ calls)
unfolding state_after answers_to zip_with
one_more m c calls a r =
    record { returns = ap₂ ◌∷◌ a.return (r.returns ∙ ap (returns_from calls) a.state); state = r.state ∙ ap (state_from calls) a.state; sound = r.sound }

same_calls : (m : Memory) → Sound m → (calls : List DriverCall) → WellLent calls → SameCalls m calls
unfolding state_after answers_to zip_with
same_calls m k [] w = record { returns = refl; state = refl; sound = k }
same_calls m k (arrive sent answer ∷ calls) w =
    let a = same_arrival m k sent answer w.0 w.1 in
    one_more m (arrive sent answer) calls a (same_calls (driver_transition m (arrive sent answer)).0 a.next calls w.2)
same_calls m k (read lane answer ∷ calls) w =
    let a = same_read m k lane answer w.0 in
    one_more m (read lane answer) calls a (same_calls (driver_transition m (read lane answer)).0 a.next calls w.1)
same_calls m k (preview sent answer room ∷ calls) w =
    let a = same_preview m k sent answer room w.0 w.1 w.2 in
    one_more m (preview sent answer room) calls a (same_calls (driver_transition m (preview sent answer room)).0 a.next calls w.3)

-- ---- previews left out

left_out : (calls : List DriverCall) (m : Memory)
    → (without_shown (answers_to driver_transition m calls) ≡ answers_to driver_transition m (without_previews calls))
    × (state_after driver_transition m calls ≡ state_after driver_transition m (without_previews calls))
unfolding answers_to state_after without_previews without_shown driver_transition
left_out [] m = (refl, refl)
left_out (arrive sent answer ∷ calls) m =
    let r = left_out calls (driver_transition m (arrive sent answer)).0 in
    (ap (λ (rs : List Returned). (driver_transition m (arrive sent answer)).1 ∷ rs) r.0, r.1)
left_out (read lane answer ∷ calls) m =
    let r = left_out calls m in
    (ap (λ (rs : List Returned). (driver_transition m (read lane answer)).1 ∷ rs) r.0, r.1)
left_out (preview sent answer room ∷ calls) m =
    let r = left_out calls m in
    (r.0, r.1)

-- ---- from opened memory

module _ (v : ℕ) (least : 1 ≤ v) (most : v ≤ 6) (before : Memory) (n : length before.bench ≡ bench_length) (m : length before.link ≡ link_length) where
  opens : Opens v before.bench before.link
  opens = every_opening v least most before.bench before.link n m

  opened_fresh : state_in (opened_memory v before) ≡ fresh_state v
  unfolding fresh_state
  opened_fresh = ap₂ state-of opens.fresh-bench opens.fresh-link

  opened_sound : Sound (opened_memory v before)
  opened_sound =
      record {
        bench_size = ap length (opened-bench v least most before.bench before.link n m) ∙ length-bench (fresh_bench v) before.bench (fresh_bench_fits v) n;
        link_size = ap length (opened-link v least most before.bench before.link n m) ∙ length-link fresh_link fresh_link_fits;
        bench_fits = rw opens.fresh-bench (fresh_bench_fits v);
        link_fits = rw opens.fresh-link fresh_link_fits;
      }

  -- after a list of calls: the state that memory says is the bench's after the list without its previews
  module _ (calls : List DriverCall) (w : WellLent calls) where
    run : SameCalls (opened_memory v before) calls
    run = same_calls (opened_memory v before) opened_sound calls w

    run_state : state_in (memory_after v before calls) ≡ bench_after v (calls_of (map event_of calls))
    run_state = run.state ∙ ap (state_from calls) opened_fresh ∙ (every_list_with_previews v least most (map event_of calls)).same_state

-- THEOREM: every list of a driver's calls, with previews among them, is answered as the reference model answers it, and leaves each lane in memory as its
-- machine; what its other calls return and the memory it leaves are those of the list without the previews
pub every_list_in_memory : EveryListInMemory
every_list_in_memory v least most before n m calls w =
    let l = every_list_with_previews v least most (map event_of calls) in
    let fresh = opened_fresh v least most before n m in
    let without = left_out calls (opened_memory v before) in
    record {
      same_returns = (run v least most before n m calls w).returns ∙ ap (returns_from calls) fresh ∙ ap (λ (xs : List EventAnswer). zip_with returned_as xs (map lent_for calls)) l.same_answers;
      same_lanes = λ i lt. ap (λ (x : State). lane_view (get_or x.bench.slots i None)) (run_state v least most before n m calls w) ∙ l.without-previews.same_lanes i lt;
      same_calls = without.0;
      same_memory = without.1;
    }

-- THEOREM: after every list of a driver's calls a screen shows the reference model's machines
pub every_screen_in_memory : EveryScreenInMemory
every_screen_in_memory v least most before n m calls w mask some out shown len k =
    let e = ap (λ (x : State). x.bench) (run_state v least most before n m calls w) in
    let s = every_screen (memory_after v before calls).bench mask out shown (run v least most before n m calls w).sound.bench_size k in
    record {
      same_mask = s.same_mask ∙ ap (λ (b : Bench). screen_answer b mask out) e;
      same_numbers = s.same_numbers ∙ ap (λ (b : Bench). screen_numbers b mask out) e;
      shows = screen_after_every_list v least most (calls_of (map event_of calls)) mask some out len;
    }
