-- Two records that name no common lane, put in turn in either order.
-- Assumes nothing.
use mathlib.Core.Path.{◌≡◌, refl, sym, ap, ap₂, subst, ◌∙◌}
use mathlib.Core.Bool.{Bool, true, false, ◌&&◌, and_comm, true≢false}
use mathlib.Core.List.Memᴰ
use mathlib.Core.List.{List, [], ◌∷◌, ◌++◌, append_assoc}
use Prim.Native.Nat.{ℕ, suc, ◌+◌, ◌^◌, ◌<◌, ◌≤◌}
use native.Mathlib.Omega.{arith}
use lib.ListN.{length}
use Rattle.katan.specs.Bit.{pick}
use Rattle.katan.specs.Checks.{Outcome, value, refused}
use Rattle.katan.specs.Sizes.{lane_count}
use Rattle.bench_record.specs.declared.Record.{Record}
use Rattle.bench_record.specs.Fields.{decode, kind, names}
use Rattle.bench.specs.declared.Bench.{Bench}
use Rattle.bench.specs.declared.Link.{Link}
use Rattle.bench.specs.Machine.{Machine, step_as, moved_as, step_all, total_of}
use Rattle.bench.specs.Calls.{Call, arrival, reading, done, Answer, answers_to}
use Rattle.bench.specs.Checks.{arrival_checks, Turn, counts, repeats, decision}
use Rattle.bench.specs.Model.{Model, after_counted, model_transition}
use Rattle.bench.specs.Bench.{bench_view, effect_as, arrive_of, read_of, State, after_effect, bench_transition}
use Rattle.bench.specs.Claim.{bench_after, bench_answers, model_after, model_answers, counted_records, last_number}
use Rattle.bench.specs.Laws.{SoundRecord, and_arrival}
use Rattle.bench.specs.Exchange.{numbered, Apart, NotSent, last_after, total_next, both_done, in_turn, NeitherSent, Ready, SameTotals, EitherOrder}
use Rattle.bench.proofs.Turns.{not_latest, repeats_last}
use Rattle.bench.proofs.Lists.{Latest, still_kept, same_more, same_bench}
use Rattle.bench.proofs.Laws.{same, next_leaves, next_answers, counting}
use Rattle.bench.proofs.Numbering.{its_number, numbered_sound, numbered_steps, numbered_total}

-- ---- two steps on lanes apart, whatever they make of a lane

module _ {A : Type 0} (g : A → A) (m : A) where
  -- of a lane that only one of them names, neither sees what the other makes
  one_lane : (b c : Bool) → (b && c) ≡ false → (f : A → A) → pick b (f (pick c (g m) m)) (pick c (g m) m) ≡ pick c (g (pick b (f m) m)) (pick b (f m) m)
  one_lane true true e f = absurd (true≢false e)
  one_lane true false e f = refl
  one_lane false c e f = refl

  unseen : (b c : Bool) → (b && c) ≡ false → (f : A → ℕ) → pick b (f (pick c (g m) m)) 0 ≡ pick b (f m) 0
  unseen true true e f = absurd (true≢false e)
  unseen true false e f = refl
  unseen false c e f = refl

module _ (r q : Record) where
  -- of the lanes from i on, as many as there are machines, none is named by both
  abbrev ApartFrom : ℕ → List Machine → Type 0
  ApartFrom i ms = (j : ℕ) → i ≤ j → j < i + length ms → (names r j && names q j) ≡ false

  -- the two steps may be taken in either order, and r's total does not see q's step
  steps_apart : (ms : List Machine) (i : ℕ) → ApartFrom i ms → (step_all r i (step_all q i ms) ≡ step_all q i (step_all r i ms)) × (total_of r i (step_all q i ms) ≡ total_of r i ms)
  unfolding step_all total_of
  steps_apart [] i apart = (refl, refl)
  steps_apart (m ∷ ms) i apart =
      let here = apart i (omega arith) (omega arith) in
      let rest = steps_apart ms (suc i) (λ j a b. apart j (omega arith) (omega arith)) in (
        ap₂ ◌∷◌ (one_lane (step_as (kind q) q) m (names r i) (names q i) here (step_as (kind r) r)) rest.0,
        ap₂ ◌+◌ (unseen (step_as (kind q) q) m (names r i) (names q i) here (moved_as (kind r) r)) rest.1,
      )

-- ---- calls that come later

module _ (b : Bench) (l o : Link) (last : l.last ≡ o.last) where
  same_decision : (s : List ℕ) → (s ≡ l.bytes → ⊥) → (s ≡ o.bytes → ⊥) → decision (bench_view b l) s ≡ decision (bench_view b o) s
  unfolding bench_view decision arrival_checks
  same_decision s p q = rw (last, not_latest l.bytes s p, not_latest o.bytes s q)

  abbrev with_link : Link → State
  with_link k = record { bench = b; link = k }

  -- the answer to a record, and to the calls after it
  abbrev answers_from : State × Answer → List Call → List Answer
  answers_from x more = x.1 ∷ answers_to bench_transition x.0 more

  same_turn : (s : List ℕ) (more : List Call) (d : Outcome Turn) → decision (bench_view b l) s ≡ d → (s ≡ l.bytes → ⊥)
      → answers_to bench_transition (with_link l) more ≡ answers_to bench_transition (with_link o) more
      → answers_from (after_effect (effect_as d b l s)) more ≡ answers_from (after_effect (effect_as d b o s)) more
  unfolding effect_as bench_view
  same_turn s more (value counts) e differs rest = refl
  same_turn s more (value repeats) e differs rest = absurd (differs (repeats_last (bench_view b l) s e).is_latest)
  same_turn s more (refused k) e differs rest = ap (λ (a : List Answer). refused k ∷ a) rest

  same_later : (more : List Call) → NotSent l.bytes more → NotSent o.bytes more → answers_to bench_transition (with_link l) more ≡ answers_to bench_transition (with_link o) more
  unfolding answers_to bench_transition arrive_of
  same_later [] p q = refl
  same_later (reading i ∷ more) p q = ap (λ (a : List Answer). read_of b i ∷ a) (same_later more (λ m. p (Memᴰ.tail m)) (λ m. q (Memᴰ.tail m)))
  same_later (arrival s ∷ more) p q =
      let not_l : s ≡ l.bytes → ⊥ = λ e. p (Memᴰ.head (ap arrival (sym e))) in
      let not_o : s ≡ o.bytes → ⊥ = λ e. q (Memᴰ.head (ap arrival (sym e))) in
      same_turn s more (decision (bench_view b l) s) refl not_l (same_later more (λ m. p (Memᴰ.tail m)) (λ m. q (Memᴰ.tail m)))
      ∙ ap (λ (d : Outcome Turn). answers_from (after_effect (effect_as d b o s)) more) (same_decision s not_l not_o)

module _ (v : ℕ) (least : 1 ≤ v) (most : v ≤ 6) (calls : List Call) where
  abbrev last : ℕ
  last = last_after v calls

  abbrev machines : List Machine
  machines = (model_after v calls).machines

  -- ---- one order

  module _ (s t : List ℕ) (sound_s : SoundRecord v s) (sound_t : SoundRecord v t) (two_left : last + 2 ≤ last_number) where
    abbrev s₁ : List ℕ
    s₁ = numbered (last + 1) s

    abbrev t₂ : List ℕ
    t₂ = numbered (last + 2) t

    abbrev once : List Call
    once = and_arrival calls s₁

    first_fits : last + 1 < 2 ^ 32
    first_fits = omega arith

    second_fits : last + 2 < 2 ^ 32
    second_fits = omega arith

    first_sound : SoundRecord v s₁
    first_sound = numbered_sound (last + 1) s v sound_s first_fits

    first_number : (decode s₁).number ≡ last + 1
    first_number = its_number (last + 1) s v sound_s first_fits

    second_sound : SoundRecord v t₂
    second_sound = numbered_sound (last + 2) t v sound_t second_fits

    one_counted : counted_records v once ≡ s₁ ∷ counted_records v calls
    one_counted = (counting v least most calls s₁ first_sound first_number).one_more

    second_number : (decode t₂).number ≡ length (counted_records v once) + 1
    second_number = its_number (last + 2) t v sound_t second_fits ∙ sym (ap (λ (l : List (List ℕ)). length l + 1) one_counted ∙ omega arith)

    in-turn : in_turn v calls s t ≡ and_arrival once t₂
    in-turn = sym (append_assoc calls (arrival s₁ ∷ []) (arrival t₂ ∷ []))

    first_leaves : model_after v once ≡ after_counted (model_after v calls) s₁
    first_leaves = next_leaves v least most calls s₁ first_sound first_number

    both_leave : model_after v (in_turn v calls s t) ≡ after_counted (after_counted (model_after v calls) s₁) t₂
    both_leave =
        ap (model_after v) in-turn ∙ next_leaves v least most once t₂ second_sound second_number ∙ ap (λ (m : Model). after_counted m t₂) first_leaves

    after_first : (model_after v once).machines ≡ step_all (decode s) 0 machines
    unfolding after_counted
    after_first = ap (λ (m : Model). m.machines) first_leaves ∙ numbered_steps (last + 1) s v sound_s first_fits machines

    after_both : (model_after v (in_turn v calls s t)).machines ≡ step_all (decode t) 0 (step_all (decode s) 0 machines)
    unfolding after_counted
    after_both =
        ap (λ (m : Model). m.machines) both_leave ∙ numbered_steps (last + 2) t v sound_t second_fits (step_all (decode s₁) 0 machines)
        ∙ ap (step_all (decode t) 0) (numbered_steps (last + 1) s v sound_s first_fits machines)

    both_counted : counted_records v (in_turn v calls s t) ≡ t₂ ∷ s₁ ∷ counted_records v calls
    unfolding after_counted
    both_counted = ap (λ (m : Model). m.counted) both_leave

    first_answer : value (done (decode s₁).number (total_of (decode s₁) 0 machines)) ≡ value (done (last + 1) (total_next v calls s))
    first_answer = ap₂ (λ (n x : ℕ). value (done n x)) first_number (numbered_total (last + 1) s v sound_s first_fits machines)

    second_answer : value (done (decode t₂).number (total_of (decode t₂) 0 (model_after v once).machines))
        ≡ value (done (last + 2) (total_of (decode t) 0 (step_all (decode s) 0 machines)))
    second_answer =
        ap₂ (λ (n x : ℕ). value (done n x)) (its_number (last + 2) t v sound_t second_fits)
        (numbered_total (last + 2) t v sound_t second_fits (model_after v once).machines ∙ ap (total_of (decode t) 0) after_first)

    both_answered : model_answers v (in_turn v calls s t)
        ≡ model_answers v calls ++ both_done v calls (total_next v calls s) (total_of (decode t) 0 (step_all (decode s) 0 machines))
    both_answered =
        ap (model_answers v) in-turn ∙ next_answers v least most once t₂ second_sound second_number
        ∙ ap₂ (λ (before : List Answer) (a : Answer). before ++ a ∷ [])
        (next_answers v least most calls s₁ first_sound first_number ∙ ap (λ (a : Answer). model_answers v calls ++ a ∷ []) first_answer) second_answer
        ∙ append_assoc (model_answers v calls) (value (done (last + 1) (total_next v calls s)) ∷ []) _

    its_link : ((bench_after v (in_turn v calls s t)).link.bytes ≡ t₂) × ((bench_after v (in_turn v calls s t)).link.last ≡ last + 2)
    its_link =
        let k = still_kept v (in_turn v calls s t) in (
          subst (λ (c : List (List ℕ)). Latest c (bench_after v (in_turn v calls s t)).link.bytes) both_counted k.latest,
          k.last ∙ ap length both_counted ∙ omega arith,
        )

  -- ---- either order

  lanes-in : length machines ≡ lane_count
  lanes-in = (still_kept v calls).machines.size

  apart_from : (s t : List ℕ) → Apart s t → ApartFrom (decode s) (decode t) 0 machines
  apart_from s t apart j a b = apart j (omega (arith, lanes-in))

  apart_back : (s t : List ℕ) → Apart s t → Apart t s
  apart_back s t apart i lt = and_comm (names (decode t) i) (names (decode s) i) ∙ apart i lt

  module _ (s t : List ℕ) (r : Ready v calls s t) (apart : Apart s t) where
    same_machines : (model_after v (in_turn v calls s t)).machines ≡ (model_after v (in_turn v calls t s)).machines
    same_machines =
        after_both s t r.sound_s r.sound_t r.two_left
        ∙ (steps_apart (decode t) (decode s) machines 0 (apart_from t s (apart_back s t apart))).0
        ∙ sym (after_both t s r.sound_t r.sound_s r.two_left)

    model-answers : SameTotals v calls (model_answers v) s t
    model-answers =
        record {
          first_order =
              both_answered s t r.sound_s r.sound_t r.two_left
              ∙ ap (λ (x : ℕ). model_answers v calls ++ both_done v calls (total_next v calls s) x) (steps_apart (decode t) (decode s) machines 0 (apart_from t s (apart_back s t apart))).1;
          second_order =
              both_answered t s r.sound_t r.sound_s r.two_left
              ∙ ap (λ (x : ℕ). model_answers v calls ++ both_done v calls (total_next v calls t) x) (steps_apart (decode s) (decode t) machines 0 (apart_from s t apart)).1;
        }

    bench-answers : SameTotals v calls (bench_answers v) s t
    bench-answers =
        record {
          first_order = rw (same v least most (in_turn v calls s t), same v least most calls) model-answers.first_order;
          second_order = rw (same v least most (in_turn v calls t s), same v least most calls) model-answers.second_order;
        }

    alike : (bench_after v (in_turn v calls s t)).bench ≡ (bench_after v (in_turn v calls t s)).bench
    alike = same_bench v (in_turn v calls s t) (in_turn v calls t s) same_machines

    bench_later : (more : List Call) → NeitherSent v calls s t more
        → answers_to bench_transition (bench_after v (in_turn v calls s t)) more ≡ answers_to bench_transition (bench_after v (in_turn v calls t s)) more
    bench_later more none =
        let x = bench_after v (in_turn v calls s t) in
        let y = bench_after v (in_turn v calls t s) in
        let a = its_link s t r.sound_s r.sound_t r.two_left in
        let b = its_link t s r.sound_t r.sound_s r.two_left in
        same_later x.bench x.link y.link (a.1 ∙ sym b.1) more (rw a.0 none.1) (rw b.0 none.0)
        ∙ ap (λ (z : Bench). answers_to bench_transition (record { bench = z; link = y.link }) more) alike

    model_later : (more : List Call) → NeitherSent v calls s t more
        → answers_to (model_transition v) (model_after v (in_turn v calls s t)) more ≡ answers_to (model_transition v) (model_after v (in_turn v calls t s)) more
    model_later more none =
        sym (same_more v (in_turn v calls s t) more) ∙ bench_later more none ∙ same_more v (in_turn v calls t s) more

-- THEOREM: it does not matter who presses first
pub either_order : EitherOrder
either_order v least most calls s t r apart =
    record {
      same_bench = alike v least most calls s t r apart;
      same_machines = same_machines v least most calls s t r apart;
      bench-answers = bench-answers v least most calls s t r apart;
      model-answers = model-answers v least most calls s t r apart;
      bench_later = bench_later v least most calls s t r apart;
      model_later = model_later v least most calls s t r apart;
    }
