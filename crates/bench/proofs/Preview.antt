-- Lists with previews: each is the list without them, and a preview shows what the record would make of the reference model.
-- Assumes nothing.
use mathlib.Core.Path.{◌≡◌, refl, sym, ap, ap₂, ◌∙◌}
use mathlib.Core.List.{List, [], ◌∷◌}
use Prim.Native.Nat.{ℕ}
use lib.ListN.{get_or}
use Rattle.std.specs.Prelude.{None}
use Rattle.katan.specs.Checks.{Outcome, value, refused}
use Rattle.bench.specs.declared.Bench.{Bench}
use Rattle.bench.specs.declared.Link.{Link}
use Rattle.bench.specs.Calls.{arrival, again, Answer, state_after, answers_to}
use Rattle.bench.specs.Checks.{LaneView, Turn, counts, repeats, decision}
use Rattle.bench.specs.Model.{Model, fresh_model, model_transition}
use Rattle.bench.specs.Bench.{lane_view, bench_view, Effect, counted_effect, effect_as, arrive_of, State, fresh_state, bench_transition}
use Rattle.bench.specs.Preview.{preview_of, EveryOwnLanes, Event, call, preview, answered, previewed, bench_event, model_event, calls_of, answers_of, EveryListWithPreviews, TwoListsWithPreviews, Demand3WithPreviews}
use Rattle.bench.proofs.Follow.{same_views}
use Rattle.bench.proofs.Lists.{Keeps, same_call, fresh_keeps, every_list, two_lists}

-- ---- a preview that does not count shows the bench's own lanes

module _ (b : Bench) (l : Link) (s : List ℕ) where
  abbrev Own : Effect → Type 0
  Own e =
      ((k : ℕ) → e.answer ≡ refused k → e.bench ≡ b)
      × ((n t : ℕ) → e.answer ≡ value (again n t) → e.bench ≡ b)

  own : (o : Outcome Turn) → Own (effect_as o b l s)
  unfolding effect_as counted_effect
  own (value counts) = (λ k e. cc, λ n t e. cc)
  own (value repeats) = (λ k e. refl, λ n t e. refl)
  own (refused j) = (λ k e. refl, λ n t e. refl)

-- THEOREM: a refused record and a repeat show the bench's own lanes, whatever bench and link are
pub every_own_lanes : EveryOwnLanes
unfolding preview_of arrive_of
every_own_lanes b l s = let p = own b l s (decision (bench_view b l) s) in record { of_refused = p.0; of_repeat = p.1 }

-- ---- lists with previews

module _ (v : ℕ) where
  same_event : (x : State) (m : Model) → Keeps v x m → (e : Event) → ((bench_event x e).1 ≡ (model_event v m e).1) × Keeps v (bench_event x e).0 (model_event v m e).0
  unfolding bench_event model_event preview_of bench_transition
  same_event x m k (call c) = let a = same_call v x m k c in (ap answered a.answer, a.next)
  same_event x m k (preview s) =
      let a = same_call v x m k (arrival s) in
      (ap₂ previewed a.answer (same_views v (bench_transition x (arrival s)).0.bench.slots (model_transition v m (arrival s)).0.machines a.next.lanes), k)

  same_events : (events : List Event) (x : State) (m : Model) → Keeps v x m → answers_to bench_event x events ≡ answers_to (model_event v) m events
  unfolding answers_to
  same_events [] x m k = refl
  same_events (e ∷ events) x m k =
      let a = same_event x m k e in
      ap₂ ◌∷◌ a.0 (same_events events (bench_event x e).0 (model_event v m e).0 a.1)

  bench_calls : (events : List Event) (x : State)
      → (answers_of (answers_to bench_event x events) ≡ answers_to bench_transition x (calls_of events)) × (state_after bench_event x events ≡ state_after bench_transition x (calls_of events))
  unfolding answers_to state_after answers_of calls_of bench_event
  bench_calls [] x = (refl, refl)
  bench_calls (call c ∷ events) x =
      let r = bench_calls events (bench_transition x c).0 in
      (ap (λ (answers : List Answer). (bench_transition x c).1 ∷ answers) r.0, r.1)
  bench_calls (preview s ∷ events) x = bench_calls events x

  model_calls : (events : List Event) (m : Model) → state_after (model_event v) m events ≡ state_after (model_transition v) m (calls_of events)
  unfolding state_after calls_of model_event
  model_calls [] m = refl
  model_calls (call c ∷ events) m = model_calls events (model_transition v m c).0
  model_calls (preview s ∷ events) m = model_calls events m

-- THEOREM: every list with previews is answered as the reference model answers it, and is otherwise the list without them
pub every_list_with_previews : EveryListWithPreviews
every_list_with_previews v least most events =
    let b = bench_calls v events (fresh_state v) in
    record {
      same_answers = same_events v events (fresh_state v) fresh_model (fresh_keeps v);
      same_calls = b.0;
      same_state = b.1;
      same_model = model_calls v events fresh_model;
      without-previews = every_list v least most (calls_of events);
    }

-- THEOREM: two lists, whatever previews stand in either
pub two_lists_with_previews : TwoListsWithPreviews
two_lists_with_previews v least most events others i lt same =
    let lane : State → LaneView = λ x. lane_view (get_or x.bench.slots i None) in
    ap lane (bench_calls v events (fresh_state v)).1
    ∙ two_lists v least most (calls_of events) (calls_of others) i lt same
    ∙ sym (ap lane (bench_calls v others (fresh_state v)).1)

-- THEOREM: demand 3 with previews
pub demand_3_with_previews : Demand3WithPreviews
demand_3_with_previews = record { one_list = every_list_with_previews; two_lists = two_lists_with_previews }
