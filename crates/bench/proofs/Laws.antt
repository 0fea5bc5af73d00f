-- The laws of every list: what one more arrival is answered and leaves, and that every lane can be loaded and moves.
-- Assumes nothing.
use mathlib.Core.Path.{◌≡◌, refl, sym, ap, ap₂, subst, ◌∙◌}
use mathlib.Core.Bool.{Bool, true, false}
use mathlib.Core.List.Memᴰ
use mathlib.Core.List.{List, [], ◌∷◌, ◌++◌, append_assoc, append_cancel_left, Memᴰ}
use mathlib.Core.Logic.{◌⊎◌, inl, inr}
use Prim.Native.Nat.{ℕ, ◌+◌, ◌-◌, ◌^◌, ◌<◌, ◌≤◌, min}
use native.Mathlib.Omega.{arith}
use lib.ListN.{length, get_or}
use borrow.Author.Tests.{eq-eqb}
use lib.Pow.{pow_pos}
use Rattle.katan.specs.Bit.{pick}
use Rattle.katan.specs.Counter.{rounds}
use Rattle.katan.specs.Key.{key_length, key_of}
use Rattle.katan.specs.Variant.{width_of}
use Rattle.katan.specs.Machine.{registers_at}
use Rattle.katan.specs.Checks.{Outcome, value, refused, Check, checked, size_check}
use Rattle.katan.specs.Sizes.{lane_count}
use Rattle.katan.proofs.Checked.{NoFault, no_fault_found, all_passed}
use Rattle.katan.proofs.KeyNumbers.{number_of_key}
use Rattle.katan.proofs.Positions.{at_load}
use Rattle.bench_record.specs.declared.Record.{Record}
use Rattle.bench_record.specs.Fields.{Kind, forward, back, kind_byte, kind_of, names_as, record_length, decode}
use Rattle.bench_record.specs.Codec.{encode, load_record, move_record}
use Rattle.bench_record.specs.Checks.{field_checks}
use Rattle.bench.specs.Machine.{Machine, empty, loaded, step_as, machine_step, total_of}
use Rattle.bench.specs.Calls.{Call, arrival, reading, done, again, Answer, state_after, answers_to}
use Rattle.bench.specs.Checks.{View, bench_check, arrival_checks, Turn, counts, repeats, turn_of, decision}
use Rattle.bench.specs.Model.{Model, fresh_model, machine_view, model_view, after_counted, arrival_as, model_transition, made_by}
use Rattle.bench.specs.Claim.{bench_answers, model_answers, model_after, counted_records, lane_after}
use Rattle.bench.specs.TurnFirst.{InTurn}
use Rattle.bench.specs.Laws.{SoundRecord, FirstFault, and_arrival, CountsNext, AnsweredAgain, lane_shows, load_call, move_call, Laws}
use Rattle.bench.proofs.Calls.{state_more, answers_more}
use Rattle.bench.proofs.Turns.{turn_of_next, turn_of_other, turns_of, passes, counts_next}
use Rattle.bench.proofs.Lists.{every_list}
use Rattle.bench.proofs.Written.{load_back, move_back, in_word, lane_mask, own_bit, load_sound, forward_sound, back_sound}

-- ---- no check finds a fault

module _ (w : View) (s : List ℕ) (fit : (bench_check w.variant w.lanes).fault ≡ false) (sound : SoundRecord w.variant s) where
  -- wherever a check stands in the list
  none_found : NoFault (turns_of w s) → NoFault (arrival_checks w s)
  unfolding arrival_checks
  none_found turn =
      let fields = (all_passed tt (size_check record_length s ∷ field_checks w.variant (decode s)) (value tt) sound).0 in
      search

  in_its_turn : InTurn w s → decision w s ≡ value (turn_of w.last s)
  unfolding decision
  in_its_turn i = no_fault_found (arrival_checks w s) (value (turn_of w.last s)) (none_found (passes w s i))

  is_next : (decode s).number ≡ w.last + 1 → decision w s ≡ value counts
  is_next n = in_its_turn (inl n) ∙ ap value (turn_of_next w.last w.latest s n)

  latest_repeats : (decode s).number ≡ w.last → 0 < w.last → s ≡ w.latest → decision w s ≡ value repeats
  latest_repeats n some e = in_its_turn (inr (some, n, e)) ∙ ap value (turn_of_other w.last w.latest s (λ q. omega arith))

-- ---- the first fault found

one_more_passes : (c : Check) (cs : List Check) → c.fault ≡ false → ((d : Check) → Memᴰ d cs → d.fault ≡ false) → (d : Check) → (d ≡ c) ⊎ Memᴰ d cs → d.fault ≡ false
one_more_passes c cs f others d (inl e) = ap (λ (x : Check). x.fault) e ∙ f
one_more_passes c cs f others d (inr m) = others d m

module _ {A : Type 0} (a : A) (k : ℕ) where
  found_in : (c : Check) (cs : List Check) (b : Bool) → c.fault ≡ b → (checked cs (value a) ≡ refused k → FirstFault cs k)
      → pick b (refused c.number) (checked cs (value a)) ≡ refused k → FirstFault (c ∷ cs) k
  found_in c cs true f later e =
      record { before = []; found = c; after = cs; in_order = refl; its_number = cc; its_fault = f; none_before = λ d m. absurd (Memᴰ.not-nil m) }
  found_in c cs false f later e =
      let r = later e in
      record {
        before = c ∷ r.before;
        found = r.found;
        after = r.after;
        in_order = ap (λ (l : List Check). c ∷ l) r.in_order;
        its_number = r.its_number;
        its_fault = r.its_fault;
        none_before = λ d m. one_more_passes c r.before f r.none_before d (Memᴰ.cases_cons m);
      }

  pub first_found : (cs : List Check) → checked cs (value a) ≡ refused k → FirstFault cs k
  first_found [] e = cc
  first_found (c ∷ cs) e = found_in c cs c.fault refl (first_found cs) e

module _ (v : ℕ) where
  -- ---- the latest counted record

  -- it is sound, has the last number, and was answered 'done' with the total that the model keeps
  record Latest (m : Model) (answers : List Answer) (s : List ℕ) : Type 0 where
    sound : SoundRecord v s
    is_last : (decode s).number ≡ length m.counted
    was_done : Memᴰ (value (done (decode s).number m.total)) answers

  -- of a model that has given these answers
  abbrev Known : Model → List Answer → Type 0
  Known m answers = (s : List ℕ) (earlier : List (List ℕ)) → m.counted ≡ s ∷ earlier → Latest m answers s

  still_known : (m : Model) (answers more : List Answer) → Known m answers → Known m (answers ++ more)
  still_known m answers more k s earlier e =
      let l = k s earlier e in
      record { sound = l.sound; is_last = l.is_last; was_done = Memᴰ.append_left more l.was_done }

  known_turn : (m : Model) (answers : List Answer) (s : List ℕ) (o : Outcome Turn) → decision (model_view v m) s ≡ o → Known m answers
      → Known (arrival_as o m s).0 (answers ++ (arrival_as o m s).1 ∷ [])
  unfolding arrival_as after_counted model_view
  known_turn m answers s (value counts) e k t earlier q =
      let c = counts_next (model_view v m) s e in
      let same : s ≡ t = cc in
      subst (Latest (after_counted m s) (answers ++ value (done (decode s).number (total_of (decode s) 0 m.machines)) ∷ [])) same
      (record {
        sound = no_fault_found (size_check record_length s ∷ field_checks v (decode s)) (value tt) c.0.sound;
        is_last = omega (arith, c.1);
        was_done = Memᴰ.append_right answers (Memᴰ.head refl);
      })
  known_turn m answers s (value repeats) e k t earlier q = still_known m answers _ k t earlier q
  known_turn m answers s (refused n) e k t earlier q = still_known m answers _ k t earlier q

  known_call : (m : Model) (answers : List Answer) (c : Call) → Known m answers → Known (model_transition v m c).0 (answers ++ (model_transition v m c).1 ∷ [])
  unfolding model_transition
  known_call m answers (arrival s) k = known_turn m answers s (decision (model_view v m) s) refl k
  known_call m answers (reading i) k = still_known m answers _ k

  known_calls : (calls : List Call) (m : Model) (answers : List Answer) → Known m answers
      → Known (state_after (model_transition v) m calls) (answers ++ answers_to (model_transition v) m calls)
  unfolding state_after answers_to
  known_calls [] m answers k = still_known m answers [] k
  known_calls (c ∷ calls) m answers k = rw append_assoc at (known_calls calls _ _ (known_call m answers c k))

  latest_known : (calls : List Call) → Known (model_after v calls) (model_answers v calls)
  unfolding fresh_model
  latest_known calls = known_calls calls fresh_model [] (λ s earlier e. cc)

  -- ---- the reference model at one more arrival

  module _ (calls : List Call) (s : List ℕ) where
    abbrev turn_now : Outcome Turn
    turn_now = decision (model_view v (model_after v calls)) s

    module _ (o : Outcome Turn) (e : turn_now ≡ o) where
      arrived : model_after v (and_arrival calls s) ≡ (arrival_as o (model_after v calls) s).0
      unfolding state_after model_transition
      arrived = state_more (model_transition v) fresh_model calls (arrival s ∷ []) ∙ ap (λ (t : Outcome Turn). (arrival_as t (model_after v calls) s).0) e

      answered : model_answers v (and_arrival calls s) ≡ model_answers v calls ++ (arrival_as o (model_after v calls) s).1 ∷ []
      unfolding answers_to model_transition
      answered =
          answers_more (model_transition v) fresh_model calls (arrival s ∷ [])
          ∙ ap (λ (t : Outcome Turn). model_answers v calls ++ (arrival_as t (model_after v calls) s).1 ∷ []) e

    counts_leaves : turn_now ≡ value counts → model_after v (and_arrival calls s) ≡ after_counted (model_after v calls) s
    unfolding arrival_as
    counts_leaves e = arrived (value counts) e

    counts_answers : turn_now ≡ value counts
        → model_answers v (and_arrival calls s) ≡ model_answers v calls ++ value (done (decode s).number (total_of (decode s) 0 (model_after v calls).machines)) ∷ []
    unfolding arrival_as
    counts_answers e = answered (value counts) e

    repeats_leaves : turn_now ≡ value repeats → model_after v (and_arrival calls s) ≡ model_after v calls
    unfolding arrival_as
    repeats_leaves e = arrived (value repeats) e

    repeats_answers : turn_now ≡ value repeats
        → model_answers v (and_arrival calls s) ≡ model_answers v calls ++ value (again (decode s).number (model_after v calls).total) ∷ []
    unfolding arrival_as
    repeats_answers e = answered (value repeats) e

    refused_turn : (k : ℕ) (o : Outcome Turn) → turn_now ≡ o → (arrival_as o (model_after v calls) s).1 ∷ [] ≡ refused k ∷ []
        → FirstFault (arrival_checks (model_view v (model_after v calls)) s) k
    unfolding arrival_as decision
    refused_turn k (value counts) d f = cc
    refused_turn k (value repeats) d f = cc
    refused_turn k (refused n) d f = first_found (turn_of (model_view v (model_after v calls)).last s) k (arrival_checks (model_view v (model_after v calls)) s) (cc)

    refused_answers : (k : ℕ) → model_answers v (and_arrival calls s) ≡ model_answers v calls ++ refused k ∷ [] → FirstFault (arrival_checks (model_view v (model_after v calls)) s) k
    refused_answers k e =
        refused_turn k turn_now refl
        (append_cancel_left (model_answers v calls) ((arrival_as turn_now (model_after v calls) s).1 ∷ []) (refused k ∷ []) (sym (answered turn_now refl) ∙ e))

-- ---- the machine of a lane that is loaded, and moves

module _ (i q key x : ℕ) where
  load_step : (m : Machine) → machine_step (load_record 1 i q (key_of key) x) i m ≡ loaded key x q q
  unfolding kind_of names_as step_as
  load_step m = ap₂ (λ (b : Bool) (k : ℕ). pick b (loaded k x q q) m) (eq-eqb i i refl) (number_of_key key)

  module _ (c : ℕ) where
    abbrev moved_to : Bool → (position : ℕ) → Machine
    moved_to b p = pick b (loaded key x q p) (loaded key x q q)

    forward_step : machine_step (move_record (kind_byte forward) 2 (2 ^ i) c) i (loaded key x q q) ≡ loaded key x q (min rounds (q + c))
    unfolding kind_of names_as step_as
    forward_step = ap (λ (b : Bool). moved_to b (min rounds (q + c))) (own_bit i)

    back_step : machine_step (move_record (kind_byte back) 2 (2 ^ i) c) i (loaded key x q q) ≡ loaded key x q (q - c)
    unfolding kind_of names_as step_as
    back_step = ap (λ (b : Bool). moved_to b (q - c)) (own_bit i)

module _ (v : ℕ) (least : 1 ≤ v) (most : v ≤ 6) where
  -- ---- and the bench

  pub same : (calls : List Call) → bench_answers v calls ≡ model_answers v calls
  same calls = (every_list v least most calls).same_answers

  module _ (calls : List Call) (s : List ℕ) where
    module _ (sound : SoundRecord v s) (n : (decode s).number ≡ length (counted_records v calls) + 1) where
      next_now : turn_now v calls s ≡ value counts
      unfolding model_view
      next_now = is_next (model_view v (model_after v calls)) s (every_list v least most calls).no_check_1 sound n

      pub next_leaves : model_after v (and_arrival calls s) ≡ after_counted (model_after v calls) s
      next_leaves = counts_leaves v calls s next_now

      pub next_answers : model_answers v (and_arrival calls s) ≡ model_answers v calls ++ value (done (decode s).number (total_of (decode s) 0 (model_after v calls).machines)) ∷ []
      next_answers = counts_answers v calls s next_now

      pub counting : CountsNext v calls s
      unfolding after_counted
      counting = record { one_more = ap (λ (m : Model). m.counted) next_leaves; answered = rw (same (and_arrival calls s), same calls) next_answers }

    repeating : (earlier : List (List ℕ)) → counted_records v calls ≡ s ∷ earlier → AnsweredAgain v calls s
    unfolding model_view
    repeating earlier q =
        let now = every_list v least most calls in
        let next = every_list v least most (and_arrival calls s) in
        let l = latest_known v calls s earlier q in
        let some = ap length q in
        let e = latest_repeats (model_view v (model_after v calls)) s now.no_check_1 l.sound l.is_last (omega arith) (rw q) in
        let kept = repeats_leaves v calls s e in
        record {
          total = (model_after v calls).total;
          was_done = rw (same calls) l.was_done;
          answered = rw (same (and_arrival calls s), same calls) (repeats_answers v calls s e);
          none_counts = ap (λ (m : Model). m.counted) kept;
          none_moves = λ i lt. next.same_lanes i lt ∙ ap (λ (m : Model). machine_view v (get_or m.machines i empty)) kept ∙ sym (now.same_lanes i lt);
        }

    refusing : (k : ℕ) → bench_answers v (and_arrival calls s) ≡ bench_answers v calls ++ refused k ∷ [] → FirstFault (arrival_checks (model_view v (model_after v calls)) s) k
    refusing k e = refused_answers v calls s k (rw (same (and_arrival calls s), same calls) at e)

  -- ---- a lane that is loaded, and moves

  -- what a lane shows, from the records that counted
  shown_by : (calls : List Call) (i : ℕ) (ss : List (List ℕ)) → i < lane_count → counted_records v calls ≡ ss → lane_after v calls i ≡ machine_view v (made_by i ss)
  shown_by calls i ss lt e =
      let now = every_list v least most calls in
      now.same_lanes i lt ∙ ap (machine_view v) (now.made_by_records i lt ∙ ap (made_by i) e)

  module _ (i q key x : ℕ) (lane : i < lane_count) (from : q ≤ rounds) (fits : key < 2 ^ key_length) (small : x < 2 ^ width_of v) where
    abbrev the_load : Record
    the_load = load_record 1 i q (key_of key) x

    abbrev loaded_list : List Call
    loaded_list = load_call i q key x ∷ []

    its_load : decode (encode the_load) ≡ the_load
    its_load = load_back 1 (omega arith) i q key x fits (in_word v x small)

    load_counts : counted_records v loaded_list ≡ encode the_load ∷ []
    unfolding state_after fresh_model
    load_counts = (counting [] (encode the_load) (load_sound 1 (omega arith) v i q key x lane from fits small) (ap (λ (t : Record). t.number) its_load)).one_more

    load_made : made_by i (encode the_load ∷ []) ≡ loaded key x q q
    unfolding made_by
    load_made = ap (λ (t : Record). machine_step t i empty) its_load ∙ load_step i q key x empty

    by_load : lane_after v loaded_list i ≡ lane_shows q x
    unfolding machine_view
    by_load = shown_by loaded_list i (encode the_load ∷ []) lane load_counts ∙ ap (machine_view v) load_made ∙ ap (lane_shows q) (at_load v key q x)

    -- a forward or a back
    module _ (k : Kind) (c : ℕ) where
      abbrev the_move : Record
      the_move = move_record (kind_byte k) 2 (2 ^ i) c

      its_move : decode (encode the_move) ≡ the_move
      its_move = move_back 2 (omega arith) (kind_byte k) (2 ^ i) c (lane_mask i lane)

      by_move : (p : ℕ) → SoundRecord v (encode the_move) → machine_step the_move i (loaded key x q q) ≡ loaded key x q p
          → lane_after v (load_call i q key x ∷ move_call k i c ∷ []) i ≡ lane_shows p (registers_at v key q x p)
      unfolding made_by machine_view
      by_move p sound step =
          let n : (decode (encode the_move)).number ≡ length (counted_records v loaded_list) + 1 = rw load_counts (ap (λ (t : Record). t.number) its_move) in
          let both = (counting loaded_list (encode the_move) sound n).one_more ∙ ap (λ (l : List (List ℕ)). encode the_move ∷ l) load_counts in
          shown_by (load_call i q key x ∷ move_call k i c ∷ []) i (encode the_move ∷ encode the_load ∷ []) lane both
          ∙ ap (machine_view v) (ap₂ (λ (t : Record) (m : Machine). machine_step t i m) its_move load_made ∙ step)

    module _ (c : ℕ) (some : 1 ≤ c) (few : c ≤ rounds) where
      by_forward : lane_after v (load_call i q key x ∷ move_call forward i c ∷ []) i ≡ lane_shows (min rounds (q + c)) (registers_at v key q x (min rounds (q + c)))
      by_forward = by_move forward c (min rounds (q + c)) (forward_sound 2 (omega arith) v (2 ^ i) (lane_mask i lane) (pow_pos i) c some few) (forward_step i q key x c)

      by_back : lane_after v (load_call i q key x ∷ move_call back i c ∷ []) i ≡ lane_shows (q - c) (registers_at v key q x (q - c))
      by_back = by_move back c (q - c) (back_sound 2 (omega arith) v (2 ^ i) (lane_mask i lane) (pow_pos i) c some few) (back_step i q key x c)

-- THEOREM: the laws of every list
pub laws : Laws
laws v least most =
    record {
      counting = counting v least most;
      repeating = repeating v least most;
      refusing = refusing v least most;
      reaching = λ i q key x lane from fits small.
          record {
            by_load = by_load v least most i q key x lane from fits small;
            by_forward = by_forward v least most i q key x lane from fits small;
            by_back = by_back v least most i q key x lane from fits small;
          };
    }
