-- A driver's calls one by one, on memory of the right lengths: opening gives memory that says the fresh bench and link, whatever it held; an arrival, on
-- memory of bytes, and a read find the state that the memory says, answer as the call of a list does (bench's `bench_transition`), and leave memory that
-- says the state that it leaves; a screen shows the bench that the memory says; a preview is an arrival in a copy.
-- Assumes nothing.
use Rattle.std.specs.Prelude.{ℕ, ◌≤◌, ◌≡◌, List, length}
use Rattle.katan.specs.Bit.{AreBytes}
use Rattle.katan.specs.Lent.{status_of}
use Rattle.bench.specs.Bench.{fresh_bench, fresh_link, read_of}
use Rattle.bench_screen.specs.Screen.{screen_answer, screen_numbers}
use Rattle.driver_layout.specs.Layout.{bench_length, link_length, bench_in, link_in}
use Rattle.driver_reads.specs.Calls.{reading_words, read_call, shown_words, screen_call, screened_numbers}
use Rattle.driver_bench.specs.Calls.{open_call, opened_bench, opened_link, arrival_words, arrive_effect, arrive_call, arrived_bench, arrived_link, preview_call, previewed_room}

pub record Opens (v : ℕ) (bench link : List ℕ) : Type 0 where
  pub accepted : status_of (open_call v bench link) ≡ 0
  pub fresh-bench : bench_in (opened_bench v bench link) ≡ fresh_bench v
  pub fresh-link : link_in (opened_link v bench link) ≡ fresh_link

-- whatever the memory held
abbrev pub EveryOpening : Type 0
EveryOpening = (v : ℕ) → 1 ≤ v → v ≤ 6 → (bench link : List ℕ) → length bench ≡ bench_length → length link ≡ link_length → Opens v bench link

pub record Arrives (bench link sent answer : List ℕ) : Type 0 where
  pub same_answer : arrive_call bench link sent answer ≡ (arrive_effect bench link sent answer).answer
  pub same_bench : bench_in (arrived_bench bench link sent answer) ≡ (arrive_effect bench link sent answer).bench
  pub same_link : link_in (arrived_link bench link sent answer) ≡ (arrive_effect bench link sent answer).link

-- the memory and the record are bytes
abbrev pub EveryArrival : Type 0
EveryArrival =
    (bench link sent answer : List ℕ) → length bench ≡ bench_length → length link ≡ link_length → length answer ≡ arrival_words
    → AreBytes bench → AreBytes link → AreBytes sent → Arrives bench link sent answer

abbrev pub EveryRead : Type 0
EveryRead = (bench : List ℕ) (i : ℕ) (answer : List ℕ) → length bench ≡ bench_length → length answer ≡ reading_words → read_call bench i answer ≡ read_of (bench_in bench) i

-- a screen shows the bench that the memory says, with its status, its mask and its numbers
pub record Screens (bench : List ℕ) (m : ℕ) (out shown : List ℕ) : Type 0 where
  pub same_mask : screen_call bench m out shown ≡ screen_answer (bench_in bench) m out
  pub same_numbers : screened_numbers bench m out shown ≡ screen_numbers (bench_in bench) m out

-- an output of any length
abbrev pub EveryScreen : Type 0
EveryScreen = (bench : List ℕ) (m : ℕ) (out shown : List ℕ) → length bench ≡ bench_length → length shown ≡ shown_words → Screens bench m out shown

-- the status and, with it, the answer are those of an arrival, and the room holds what it would leave in the bench's memory, whatever that status is
pub record Previews (bench link sent answer room : List ℕ) : Type 0 where
  pub same_call : preview_call bench link sent answer room ≡ arrive_call bench link sent answer
  pub same_memory : previewed_room bench link sent answer room ≡ arrived_bench bench link sent answer

-- link and answer of any length
abbrev pub EveryPreview : Type 0
EveryPreview = (bench link sent answer room : List ℕ) → length bench ≡ bench_length → length room ≡ bench_length → Previews bench link sent answer room
