-- Demand 3 in a driver's own memory: a bench is opened in it, whatever it held, and a list of calls follows, each finding the memory that the last one
-- left, with previews anywhere among them. Every status, every word of an answer and every lane that a preview shows is the reference model's, and the
-- lanes in memory are its machines; so are those that a screen then shows.
-- Assumes nothing.
use Rattle.std.specs.Prelude.{None, ℕ, ◌<◌, ◌≤◌, ◌≡◌, length, get_or}
use mathlib.Core.List.{List, [], ◌∷◌, map, zip_with}
use Rattle.katan.specs.Bit.{AreBytes}
use Rattle.katan.specs.Lent.{status_of, lent_after}
use Rattle.katan.specs.Sizes.{lane_count}
use Rattle.bench.specs.Calls.{arrival, reading, state_after, answers_to}
use Rattle.bench.specs.Checks.{LaneView}
use Rattle.bench.specs.Model.{machine_view}
use Rattle.bench.specs.Bench.{lane_view, lanes_of}
use Rattle.bench.specs.Claim.{bench_after, machine_after}
use Rattle.bench.specs.Preview.{Event, call, preview as preview_event, EventAnswer, answered, previewed, calls_of, model_event_answers}
use Rattle.bench_screen.specs.Screen.{screen_answer, screen_numbers}
use Rattle.bench_screen.specs.Claim.{ShowsMachines}
use Rattle.driver_layout.specs.Layout.{bench_length, link_length, bench_in}
use Rattle.driver_reads.specs.Calls.{reading_words, response_words, read_call, shown_words, screen_call, screened_numbers}
use Rattle.driver_bench.specs.Calls.{opened_bench, opened_link, arrival_words, arrive_call, arrived_bench, arrived_link, arrived_answer, preview_call, previewed_answer, previewed_room}

-- ---- a driver's memory, and its calls

-- the bytes of a bench and of its link
pub record Memory : Type 0 where
  pub bench : List ℕ
  pub link : List ℕ

-- what `katan_open` leaves
abbrev pub opened_memory : ℕ → Memory → Memory
opened_memory v m = record { bench = opened_bench v m.bench m.link; link = opened_link v m.bench m.link }

-- a record of any length arrives or is previewed, or a lane of any number is read; and what the memory lent for the answer holds, and a preview's room
pub data DriverCall : Type 0 where
  arrive : (sent answer : List ℕ) → DriverCall
  read : (lane : ℕ) (answer : List ℕ) → DriverCall
  preview : (sent answer room : List ℕ) → DriverCall

abbrev pub lent_for : DriverCall → List ℕ
lent_for (arrive sent answer) = answer
lent_for (read lane answer) = answer
lent_for (preview sent answer room) = answer

-- the lanes that the memory of a bench says
abbrev pub lanes_in : List ℕ → List LaneView
lanes_in bench = lanes_of (bench_in bench)

-- the status that a call returns, and what the memory lent for the answer holds afterwards; of a preview also the lanes that its room then says
pub data Returned : Type 0 where
  returned : (status : ℕ) (answer : List ℕ) → Returned
  shown : (status : ℕ) (answer : List ℕ) (lanes : List LaneView) → Returned

-- what a call leaves and returns, as the promises of `katan_arrive`, `katan_read` and `katan_preview` say; the last two are lent the memory to read only
unfoldable pub driver_transition : Memory → DriverCall → Memory × Returned
driver_transition m (arrive sent answer) = (
  record { bench = arrived_bench m.bench m.link sent answer; link = arrived_link m.bench m.link sent answer },
  returned (status_of (arrive_call m.bench m.link sent answer)) (arrived_answer m.bench m.link sent answer),
)
driver_transition m (read lane answer) = (
  m,
  returned (status_of (read_call m.bench lane answer)) (lent_after response_words (read_call m.bench lane answer) answer),
)
driver_transition m (preview sent answer room) = (
  m,
  shown
      (status_of (preview_call m.bench m.link sent answer room))
      (previewed_answer m.bench m.link sent answer room)
      (lanes_in (previewed_room m.bench m.link sent answer room)),
)

-- each record is of bytes, the memory lent for each answer has its words, and a room the bytes of a bench
abbrev pub WellLent : List DriverCall → Type 0
WellLent [] = Unit {0}
WellLent (arrive sent answer ∷ cs) = AreBytes sent × (length answer ≡ arrival_words) × WellLent cs
WellLent (read lane answer ∷ cs) = (length answer ≡ reading_words) × WellLent cs
WellLent (preview sent answer room ∷ cs) = AreBytes sent × (length answer ≡ arrival_words) × (length room ≡ bench_length) × WellLent cs

-- a list of calls with its previews left out, and what its other calls return
unfoldable pub without_previews : List DriverCall → List DriverCall
without_previews [] = []
without_previews (arrive sent answer ∷ cs) = arrive sent answer ∷ without_previews cs
without_previews (read lane answer ∷ cs) = read lane answer ∷ without_previews cs
without_previews (preview sent answer room ∷ cs) = without_previews cs

unfoldable pub without_shown : List Returned → List Returned
without_shown [] = []
without_shown (returned status answer ∷ rs) = returned status answer ∷ without_shown rs
without_shown (shown status answer lanes ∷ rs) = without_shown rs

-- ---- the reference model's side

-- the event that the model is fed
abbrev pub event_of : DriverCall → Event
event_of (arrive sent answer) = call (arrival sent)
event_of (read lane answer) = call (reading lane)
event_of (preview sent answer room) = preview_event sent

-- an answer as a driver gets it, over what the memory lent for it held
abbrev pub returned_as : EventAnswer → List ℕ → Returned
returned_as (answered a) old = returned (status_of a) (lent_after response_words a old)
returned_as (previewed a lanes) old = shown (status_of a) (lent_after response_words a old) lanes

-- ---- the claim

-- lane i as memory says it
abbrev pub lane_in_memory : Memory → ℕ → LaneView
lane_in_memory m i = lane_view (get_or (bench_in m.bench).slots i None)

module _ (v : ℕ) (before : Memory) (calls : List DriverCall) where
  -- after opening and a list of calls, from memory that held anything before
  abbrev pub memory_after : Memory
  memory_after = state_after driver_transition (opened_memory v before) calls

  abbrev pub returns : List Returned
  returns = answers_to driver_transition (opened_memory v before) calls

pub record FollowsModelInMemory (v : ℕ) (before : Memory) (calls : List DriverCall) : Type 0 where
  -- every status and every answer is the reference model's, and so is every lane that a preview shows
  pub same_returns : returns v before calls ≡ zip_with returned_as (model_event_answers v (map event_of calls)) (map lent_for calls)
  -- each lane is empty exactly when its machine is, and otherwise has its position and registers
  pub same_lanes : (i : ℕ) → i < lane_count → lane_in_memory (memory_after v before calls) i ≡ machine_view v (machine_after v (calls_of (map event_of calls)) i)
  -- what the other calls return, and the memory byte for byte, are those of the list with its previews left out
  pub same_calls : without_shown (returns v before calls) ≡ returns v before (without_previews calls)
  pub same_memory : memory_after v before calls ≡ memory_after v before (without_previews calls)

-- for every variant and every list
abbrev pub EveryListInMemory : Type 0
EveryListInMemory =
    (v : ℕ) → 1 ≤ v → v ≤ 6 → (before : Memory) → length before.bench ≡ bench_length → length before.link ≡ link_length
    → (calls : List DriverCall) → WellLent calls → FollowsModelInMemory v before calls

-- ---- a screen after the list, which is lent the memory to read only

pub record ScreenInMemory (v : ℕ) (before : Memory) (calls : List DriverCall) (m : ℕ) (out shown : List ℕ) : Type 0 where
  -- it is the screen of the bench that demand 3 speaks of
  pub same_mask : screen_call (memory_after v before calls).bench m out shown ≡ screen_answer (bench_after v (calls_of (map event_of calls))).bench m out
  pub same_numbers : screened_numbers (memory_after v before calls).bench m out shown ≡ screen_numbers (bench_after v (calls_of (map event_of calls))).bench m out
  -- and shows the reference model's machines
  pub shows : ShowsMachines v (calls_of (map event_of calls)) m out

-- for every variant and every list, every mask but 0, an output of a number for each lane and one word for the mask
abbrev pub EveryScreenInMemory : Type 0
EveryScreenInMemory =
    (v : ℕ) → 1 ≤ v → v ≤ 6 → (before : Memory) → length before.bench ≡ bench_length → length before.link ≡ link_length
    → (calls : List DriverCall) → WellLent calls
    → (m : ℕ) → 0 < m → (out shown : List ℕ) → length out ≡ lane_count → length shown ≡ shown_words → ScreenInMemory v before calls m out shown
