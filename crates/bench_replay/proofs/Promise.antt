-- What a replay promises, where its list is run and where it is refused.
-- Assumes nothing.
use Rattle.std.specs.Prelude.{None}
use mathlib.Core.Path.{◌≡◌, sym, ap, ap₂, ◌∙◌}
use mathlib.Core.Bool.{true, false, not}
use mathlib.Core.List.{List, [], ◌∷◌}
use Prim.Native.Nat.{ℕ, ◌<◌, ◌≤◌}
use lib.ListN.{length, get_or}
use Rattle.katan.specs.Checks.{Outcome, value, refused, checked, variant_check}
use Rattle.katan.specs.Lent.{lent_after}
use Rattle.katan.proofs.Checked.{fault_first, fault_later}
use Rattle.katan.specs.Sizes.{lane_count}
use Rattle.bench.specs.declared.Bench.{Bench}
use Rattle.bench.specs.declared.Link.{Link}
use Rattle.bench.specs.Calls.{Call, state_after, answers_to}
use Rattle.bench.specs.Bench.{fresh_bench, fresh_link, lane_view, State, fresh_state, bench_transition}
use Rattle.bench.specs.Model.{fresh_model, machine_view}
use Rattle.bench.specs.Claim.{bench_after, bench_answers, model_answers, machine_after}
use Rattle.bench.proofs.Follow.{fresh_follow, view_at}
use Rattle.bench.proofs.Lists.{every_list}
use Rattle.bench_replay.specs.Encoding.{calls_in, fits, answers_bytes}
use Rattle.bench_replay.specs.inner.Steps.{state_of}
use Rattle.bench_replay.specs.Replay.{list_check, replay_checks, ran, replay_answer, replay_output, calls_run}

-- ---- the checks

module _ {A : Type 0} (v : ℕ) (bytes out : List ℕ) (r : Outcome A) where
  refuses_1 : (variant_check v).fault ≡ true → checked (replay_checks v bytes out) r ≡ refused 1
  refuses_1 e = fault_first (variant_check v) (list_check bytes out ∷ []) r e

  refuses_2 : (variant_check v).fault ≡ false → fits bytes (length out) ≡ false → checked (replay_checks v bytes out) r ≡ refused 2
  refuses_2 e f = fault_later (variant_check v) (list_check bytes out ∷ []) r e ∙ fault_first (list_check bytes out) [] r (ap not f)

  accepts : (variant_check v).fault ≡ false → fits bytes (length out) ≡ true → checked (replay_checks v bytes out) r ≡ r
  accepts e f = fault_later (variant_check v) (list_check bytes out ∷ []) r e ∙ fault_later (list_check bytes out) [] r (ap not f)

-- ---- the promise

module _ (v : ℕ) (bytes out after : List ℕ) (answer : Outcome (Unit {0})) (b : Bench) where
  abbrev Lanes : List Call → Type 0
  Lanes calls = (i : ℕ) → i < lane_count → lane_view (get_or b.slots i None) ≡ machine_view v (machine_after v calls i)

  abbrev pub Promised : Type 0
  Promised =
      (answer ≡ replay_answer v bytes out)
      × ((after ≡ replay_output v bytes out)
      × ((b ≡ (bench_after v (calls_run v bytes out)).bench)
      × Lanes (calls_run v bytes out)))

  -- what is said of the output, of the bench and of its lanes, by what the checks find
  abbrev Kept : Outcome (List Call) → Type 0
  Kept o = (after ≡ lent_after (λ (calls : List Call). answers_bytes (model_answers v calls)) o out) × ((b ≡ (bench_after v (ran o)).bench) × Lanes (ran o))

  same_lanes : {d : Bench} → b ≡ d → (i : ℕ) → lane_view (get_or b.slots i None) ≡ lane_view (get_or d.slots i None)
  same_lanes s i = ap (λ (d : Bench). lane_view (get_or d.slots i None)) s

  kept_run : (calls : List Call) → 1 ≤ v → v ≤ 6 → b ≡ (bench_after v calls).bench → after ≡ answers_bytes (bench_answers v calls) → Kept (value calls)
  kept_run calls least most s a =
      let m = every_list v least most calls in
      (a ∙ ap answers_bytes m.same_answers, (s, λ i lt. same_lanes s i ∙ m.same_lanes i lt))

  kept_refused : (k : ℕ) → b ≡ fresh_bench v → after ≡ out → Kept (refused k)
  unfolding state_after fresh_state fresh_model
  kept_refused k s a = (a, (s, λ i lt. same_lanes s i ∙ view_at v (fresh_bench v).slots fresh_model.machines (fresh_follow v lane_count) i))

  pub promise_1 : (variant_check v).fault ≡ true → answer ≡ refused 1 → b ≡ fresh_bench v → after ≡ out → Promised
  promise_1 e f s a = (f ∙ sym (refuses_1 v bytes out (value tt) e), rw (refuses_1 v bytes out (value (calls_in bytes)) e) (kept_refused 1 s a))

  pub promise_2 : (variant_check v).fault ≡ false → fits bytes (length out) ≡ false → answer ≡ refused 2 → b ≡ fresh_bench v → after ≡ out → Promised
  promise_2 e n f s a = (f ∙ sym (refuses_2 v bytes out (value tt) e n), rw (refuses_2 v bytes out (value (calls_in bytes)) e n) (kept_refused 2 s a))

  -- as the code runs the calls: from a fresh bench and link
  pub promise_run : (d : Bench) (l : Link) → (variant_check v).fault ≡ false → (1 ≤ v) × (v ≤ 6) → fits bytes (length out) ≡ true → answer ≡ value tt
      → d ≡ fresh_bench v → l ≡ fresh_link → b ≡ (state_after bench_transition (state_of d l) (calls_in bytes)).bench
      → after ≡ answers_bytes (answers_to bench_transition (state_of d l) (calls_in bytes)) → Promised
  unfolding fresh_state
  promise_run d l e w n f g h s a =
      let calls = calls_in bytes in
      let x : state_of d l ≡ fresh_state v = ap₂ state_of g h in
      let k = kept_run calls w.0 w.1 (s ∙ ap (λ (y : State). (state_after bench_transition y calls).bench) x) (a ∙ ap (λ (y : State). answers_bytes (answers_to bench_transition y calls)) x) in
      (f ∙ sym (accepts v bytes out (value tt) e n), rw (accepts v bytes out (value calls) e n) k)
