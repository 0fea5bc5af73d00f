-- Demand 3, one statement: the claim about every list of calls, and its consequence for two lists. A law of turns that no test reaches.
-- Assumes nothing.
use Rattle.std.specs.Prelude.{ℕ, ◌<◌, ◌≤◌, ◌≡◌, false, List, None, map, get_or}
use Rattle.katan.specs.Bit.{AreBytes}
use Rattle.katan.specs.Checks.{value}
use Rattle.katan.specs.Sizes.{lane_count}
use Rattle.bench_record.specs.Fields.{AllSaySame}
use Rattle.bench.specs.Machine.{Machine, empty}
use Rattle.bench.specs.Calls.{Call, Answer, state_after, answers_to}
use Rattle.bench.specs.Checks.{LaneView, View, bench_check, Turn, repeats, decision}
use Rattle.bench.specs.Model.{Model, fresh_model, machine_view, model_transition, made_by}
use Rattle.bench.specs.Bench.{lane_view, State, fresh_state, bench_transition}

module _ (v : ℕ) (calls : List Call) where
  -- bench and link after a list of calls from the fresh ones, and the answers
  abbrev pub bench_after : State
  bench_after = state_after bench_transition (fresh_state v) calls

  abbrev pub bench_answers : List Answer
  bench_answers = answers_to bench_transition (fresh_state v) calls

  -- the reference model after the same calls, and its answers
  abbrev pub model_after : Model
  model_after = state_after (model_transition v) fresh_model calls

  abbrev pub model_answers : List Answer
  model_answers = answers_to (model_transition v) fresh_model calls

  -- the records that counted, the latest first
  abbrev pub counted_records : List (List ℕ)
  counted_records = model_after.counted

  -- lane i afterwards, and its machine
  abbrev pub lane_after : ℕ → LaneView
  lane_after i = lane_view (get_or bench_after.bench.slots i None)

  abbrev pub machine_after : ℕ → Machine
  machine_after i = get_or model_after.machines i empty

  -- the claim about a list
  pub record FollowsModel : Type 0 where
    -- every answer is the reference model's
    pub same_answers : bench_answers ≡ model_answers
    -- each lane is empty exactly when its machine is, and otherwise has its position and registers
    pub same_lanes : (i : ℕ) → i < lane_count → lane_after i ≡ machine_view v (machine_after i)
    -- each machine is what the counted records naming its lane, each once and in order, make of an empty one
    pub made_by_records : (i : ℕ) → i < lane_count → machine_after i ≡ made_by i counted_records
    -- no machine's lane meets 1
    pub no_check_1 : (bench_check v (map (machine_view v) model_after.machines)).fault ≡ false

-- for every variant and every list
abbrev pub EveryList : Type 0
EveryList = (v : ℕ) → 1 ≤ v → v ≤ 6 → (calls : List Call) → FollowsModel v calls

-- lists on one variant whose counted records, one by one, say the same of a lane leave it alike: empty after both, or with equal position and registers
-- after both. Both lists of records have the latest first, and are equally long.
abbrev pub TwoLists : Type 0
TwoLists =
    (v : ℕ) → 1 ≤ v → v ≤ 6 → (calls others : List Call) (i : ℕ) → i < lane_count
    → AllSaySame i (counted_records v calls) (counted_records v others) → lane_after v calls i ≡ lane_after v others i

-- demand 3
pub record Demand3 : Type 0 where
  pub one_list : EveryList
  pub two_lists : TwoLists

-- the largest number of a record
abbrev pub last_number : ℕ
last_number = 4294967295

-- at that last only a repeat is in turn, for any record of bytes
abbrev pub OnlyRepeats : Type 0
OnlyRepeats = (w : View) (s : List ℕ) → AreBytes s → w.last ≡ last_number → (t : Turn) → decision w s ≡ value t → (t ≡ repeats) × (s ≡ w.latest)
