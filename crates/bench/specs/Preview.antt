-- Try a record first (document 02, (v)): what a record would be answered, and the lanes that it would leave. Previews may stand anywhere in a list
-- without effect on it.
-- Assumes nothing.
use Rattle.std.specs.Prelude.{ℕ, ◌<◌, ◌≤◌, ◌≡◌, List, [], ◌∷◌, None, map, get_or}
use Rattle.katan.specs.Checks.{value, refused}
use Rattle.katan.specs.Sizes.{lane_count}
use Rattle.bench_record.specs.Fields.{AllSaySame}
use Rattle.bench.specs.declared.Bench.{Bench}
use Rattle.bench.specs.declared.Link.{Link}
use Rattle.bench.specs.Calls.{Call, arrival, again, Answer, state_after, answers_to}
use Rattle.bench.specs.Checks.{LaneView}
use Rattle.bench.specs.Model.{Model, fresh_model, machine_view, model_transition}
use Rattle.bench.specs.Bench.{lane_view, lanes_of, arrive_of, State, fresh_state, bench_transition}
use Rattle.bench.specs.Claim.{bench_after, bench_answers, model_after, counted_records, FollowsModel}

-- ---- a preview

-- the reply, and the bench with its 64 lanes
pub record PreviewEffect : Type 0 where
  pub answer : Answer
  pub bench : Bench

-- they equal those got by giving the record to a copy
unfoldable pub preview_of : Bench → Link → List ℕ → PreviewEffect
preview_of b l s = record { answer = (arrive_of b l s).answer; bench = (arrive_of b l s).bench }

-- For a refused record the reply is its number and the lanes are the bench's own, also where check 1 finds the bench damaged; so are a repeat's. For any
-- bench and link.
pub record OwnLanes (b : Bench) (l : Link) (s : List ℕ) : Type 0 where
  pub of_refused : (k : ℕ) → (preview_of b l s).answer ≡ refused k → (preview_of b l s).bench ≡ b
  pub of_repeat : (n t : ℕ) → (preview_of b l s).answer ≡ value (again n t) → (preview_of b l s).bench ≡ b

abbrev pub EveryOwnLanes : Type 0
EveryOwnLanes = (b : Bench) (l : Link) (s : List ℕ) → OwnLanes b l s

-- ---- lists with previews

-- a call, or a preview of a record of any bytes and length
pub data Event : Type 0 where
  call : Call → Event
  preview : (bytes : List ℕ) → Event

-- a preview's answer is the reply, and the lanes by what they show
pub data EventAnswer : Type 0 where
  answered : Answer → EventAnswer
  previewed : Answer → (lanes : List LaneView) → EventAnswer

-- the bench and the link keep their contents
unfoldable pub bench_event : State → Event → State × EventAnswer
bench_event x (call c) = ((bench_transition x c).0, answered (bench_transition x c).1)
bench_event x (preview s) = let p = preview_of x.bench x.link s in (x, previewed p.answer (lanes_of p.bench))

-- the reference model judges the record and steps a copy of its machines
unfoldable pub model_event : ℕ → Model → Event → Model × EventAnswer
model_event v m (call c) = ((model_transition v m c).0, answered (model_transition v m c).1)
model_event v m (preview s) = let t = model_transition v m (arrival s) in (m, previewed t.1 (map (machine_view v) t.0.machines))

-- a list with its previews left out, and the answers to its calls alone
unfoldable pub calls_of : List Event → List Call
calls_of [] = []
calls_of (call c ∷ events) = c ∷ calls_of events
calls_of (preview s ∷ events) = calls_of events

unfoldable pub answers_of : List EventAnswer → List Answer
answers_of [] = []
answers_of (answered a ∷ answers) = a ∷ answers_of answers
answers_of (previewed a lanes ∷ answers) = answers_of answers

-- ---- the claim

module _ (v : ℕ) (events : List Event) where
  abbrev pub event_answers : List EventAnswer
  event_answers = answers_to bench_event (fresh_state v) events

  abbrev pub model_event_answers : List EventAnswer
  model_event_answers = answers_to (model_event v) fresh_model events

  pub record FollowsModelWithPreviews : Type 0 where
    -- every answer is the reference model's, a preview's reply and its 64 lanes included
    pub same_answers : event_answers ≡ model_event_answers
    -- the answer to each call, and bench, link and model afterwards, are those of the list with its previews left out
    pub same_calls : answers_of event_answers ≡ bench_answers v (calls_of events)
    pub same_state : state_after bench_event (fresh_state v) events ≡ bench_after v (calls_of events)
    pub same_model : state_after (model_event v) fresh_model events ≡ model_after v (calls_of events)
    -- of which demand 3's claim about a list holds
    pub without-previews : FollowsModel v (calls_of events)

-- for every variant and every list
abbrev pub EveryListWithPreviews : Type 0
EveryListWithPreviews = (v : ℕ) → 1 ≤ v → v ≤ 6 → (events : List Event) → FollowsModelWithPreviews v events

-- lane i after a list with previews
abbrev pub lane_after_events : ℕ → List Event → ℕ → LaneView
lane_after_events v events i = lane_view (get_or (state_after bench_event (fresh_state v) events).bench.slots i None)

-- two lists whose counted records say the same of a lane leave it alike, whatever previews stand in either
abbrev pub TwoListsWithPreviews : Type 0
TwoListsWithPreviews =
    (v : ℕ) → 1 ≤ v → v ≤ 6 → (events others : List Event) (i : ℕ) → i < lane_count
    → AllSaySame i (counted_records v (calls_of events)) (counted_records v (calls_of others)) → lane_after_events v events i ≡ lane_after_events v others i

-- demand 3 with previews
pub record Demand3WithPreviews : Type 0 where
  pub one_list : EveryListWithPreviews
  pub two_lists : TwoListsWithPreviews
