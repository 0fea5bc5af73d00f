-- Demand 3: every list of calls is answered as the reference model answers it, and leaves each lane as its machine.
-- Assumes nothing.
use mathlib.Core.Path.{◌≡◌, refl, sym, ap, ap₂, subst, ◌∙◌}
use mathlib.Core.List.{List, [], ◌∷◌, map}
use Prim.Native.Nat.{ℕ}
use native.Mathlib.Omega.{arith}
use lib.ListN.{length, get_or}
use Rattle.katan.specs.Checks.{Outcome, value, refused}
use Rattle.katan.specs.Key.{key_of}
use Rattle.katan.proofs.KeyNumbers.{number_of_key}
use Rattle.katan.proofs.Variants.{variant_sound}
use Rattle.katan.specs.Sizes.{lane_count}
use Rattle.bench_record.specs.Fields.{decode, kind}
use Rattle.std.specs.Prelude.{Option}
use Rattle.bench.specs.declared.Loaded.{Loaded}
use Rattle.bench.specs.Calls.{Call, arrival, reading, done, again, Answer, state_after, answers_to}
use Rattle.bench.specs.Checks.{LaneView, View, Turn, counts, repeats, decision, read_outcome}
use Rattle.bench.specs.Model.{Model, fresh_model, machine_view, model_view, after_counted, arrival_as, model_transition}
use Rattle.bench.specs.Bench.{bench_view, counted_effect, effect_as, arrive_of, read_of, State, fresh_state, after_effect, bench_transition}
use Rattle.bench.specs.Claim.{bench_after, bench_answers, model_after, model_answers, EveryList, TwoLists, Demand3}
use Rattle.bench.proofs.Follow.{AllFollow, same_slots, same_views, view_at, no_faults, fresh_follow, counted_slots, counted_total}
use Rattle.bench.proofs.Turns.{counts_next, repeats_last, no_latest}
use Rattle.bench.proofs.Records.{Made, fresh_made, counted_made, same_made}

-- the link keeps the latest record; while none has counted it may keep anything
abbrev pub Latest : List (List ℕ) → List ℕ → Type 0
Latest [] bytes = Unit {0}
Latest (s ∷ earlier) bytes = bytes ≡ s

module _ (v : ℕ) where
  -- what a bench and link keep to, call by call
  pub record Keeps (x : State) (m : Model) : Type 0 where
    pub variant : x.bench.variant ≡ v
    pub lanes : AllFollow v x.bench.slots m.machines
    pub last : x.link.last ≡ length m.counted
    pub latest : Latest m.counted x.link.bytes
    pub total : x.link.total ≡ m.total
    pub machines : Made m

  pub record Agree (a : State × Answer) (b : Model × Answer) : Type 0 where
    pub answer : a.1 ≡ b.1
    pub next : Keeps a.0 b.0

  -- ---- one call

  module _ (x : State) (m : Model) (k : Keeps x m) where
    abbrev view_with : List (List ℕ) → List ℕ → View
    view_with cs bytes = record { variant = v; lanes = map (machine_view v) m.machines; last = length cs; latest = bytes }

    same_latest : (s : List ℕ) (cs : List (List ℕ)) → Latest cs x.link.bytes → decision (view_with cs x.link.bytes) s ≡ decision (view_with cs (get_or cs 0 [])) s
    same_latest s [] e = no_latest v (map (machine_view v) m.machines) x.link.bytes [] s
    same_latest s (c ∷ cs) e = rw e

    same_decision : (s : List ℕ) → decision (bench_view x.bench x.link) s ≡ decision (model_view v m) s
    unfolding bench_view model_view
    same_decision s = rw (k.variant, same_views v x.bench.slots m.machines k.lanes, k.last) (same_latest s m.counted k.latest)

    same_effect : (s : List ℕ) (o : Outcome Turn) → decision (model_view v m) s ≡ o → Agree (after_effect (effect_as o x.bench x.link s)) (arrival_as o m s)
    unfolding effect_as arrival_as counted_effect after_counted model_view
    same_effect s (value counts) e =
        let c = counts_next (model_view v m) s e in
        let t = counted_total v (decode s) x.bench.slots m.machines k.lanes (kind (decode s)) refl in
        record {
          answer = ap (λ (n : ℕ). value (done (decode s).number n)) t;
          next =
              record {
                variant = k.variant;
                lanes = rw k.variant (counted_slots v (decode s) x.bench.slots m.machines k.lanes (kind (decode s)) refl (ap key_of (sym (number_of_key _))) c.0.count_in c.0.block_in);
                last = omega (arith, c.1);
                latest = refl;
                total = t;
                machines = counted_made m s k.machines;
              };
        }
    same_effect s (value repeats) e =
        let r = repeats_last (model_view v m) s e in
        record { answer = ap₂ (λ (n t : ℕ). value (again n t)) (k.last ∙ sym r.is_last) k.total; next = k }
    same_effect s (refused n) e = record { answer = refl; next = k }

    pub same_call : (c : Call) → Agree (bench_transition x c) (model_transition v m c)
    unfolding bench_transition model_transition arrive_of read_of model_view
    same_call (arrival s) = rw (same_decision s) (same_effect s (decision (model_view v m) s) refl)
    same_call (reading i) = record { answer = ap₂ (λ (u : ℕ) (lanes : List LaneView). read_outcome u lanes i) k.variant (same_views v x.bench.slots m.machines k.lanes); next = k }

  -- ---- every call

  same_calls : (calls : List Call) (x : State) (m : Model) → Keeps x m
      → (answers_to bench_transition x calls ≡ answers_to (model_transition v) m calls) × Keeps (state_after bench_transition x calls) (state_after (model_transition v) m calls)
  unfolding answers_to state_after
  same_calls [] x m k = (refl, k)
  same_calls (c ∷ calls) x m k =
      let a = same_call x m k c in
      let r = same_calls calls (bench_transition x c).0 (model_transition v m c).0 a.next in
      (ap₂ ◌∷◌ a.answer r.0, r.1)

  pub fresh_keeps : Keeps (fresh_state v) fresh_model
  unfolding fresh_state fresh_model
  fresh_keeps = record { variant = refl; lanes = fresh_follow v lane_count; last = refl; latest = tt; total = refl; machines = fresh_made }

  fresh_calls : (calls : List Call) → (bench_answers v calls ≡ model_answers v calls) × Keeps (bench_after v calls) (model_after v calls)
  fresh_calls calls = same_calls calls (fresh_state v) fresh_model fresh_keeps

  pub still_kept : (calls : List Call) → Keeps (bench_after v calls) (model_after v calls)
  still_kept calls = (fresh_calls calls).1

  -- calls that come later are answered as the model answers them
  pub same_more : (calls more : List Call) → answers_to bench_transition (bench_after v calls) more ≡ answers_to (model_transition v) (model_after v calls) more
  same_more calls more = (same_calls more (bench_after v calls) (model_after v calls) (still_kept calls)).0

  -- lists that leave the same machines leave the same bench, every lane's key included
  pub same_bench : (calls others : List Call) → (model_after v calls).machines ≡ (model_after v others).machines → (bench_after v calls).bench ≡ (bench_after v others).bench
  same_bench calls others e =
      let a = still_kept calls in
      let b = still_kept others in
      let x = (bench_after v calls).bench in
      let y = (bench_after v others).bench in
      ap₂ (λ (variant : ℕ) (slots : List (Option Loaded)). record { variant = variant; slots = slots }) (a.variant ∙ sym b.variant)
      (same_slots v x.slots y.slots (model_after v calls).machines a.lanes (subst (AllFollow v y.slots) (sym e) b.lanes))

-- THEOREM: for every variant and every list of calls, the bench follows the reference model
pub every_list : EveryList
every_list v least most calls =
    let r = fresh_calls v calls in
    let m = model_after v calls in
    let slots = (bench_after v calls).bench.slots in
    record {
      same_answers = r.0;
      same_lanes = λ i lt. view_at v slots m.machines r.1.lanes i;
      made_by_records = r.1.machines.made;
      no_check_1 = rw (variant_sound v least most, no_faults v slots m.machines r.1.lanes);
    }

-- THEOREM: lists whose counted records say the same of a lane leave it alike
pub two_lists : TwoLists
two_lists v least most calls others i lt same =
    let a = every_list v least most calls in
    let b = every_list v least most others in
    a.same_lanes i lt
    ∙ ap (machine_view v) (a.made_by_records i lt ∙ same_made i _ _ same ∙ sym (b.made_by_records i lt))
    ∙ sym (b.same_lanes i lt)

-- THEOREM: demand 3
pub demand_3 : Demand3
demand_3 = record { one_list = every_list; two_lists = two_lists }
