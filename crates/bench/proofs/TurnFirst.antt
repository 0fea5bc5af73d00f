-- Turn before form: two lists of checks, one after the other in either order, find the same but where both find a fault.
-- Assumes nothing.
use mathlib.Core.Path.{◌≡◌, refl, sym, ap, ◌∙◌}
use mathlib.Core.Bool.{Bool, true, false}
use mathlib.Core.List.{List, [], ◌∷◌, ◌++◌, Memᴰ}
use mathlib.Core.Logic.{◌⊎◌, inl, inr}
use Prim.Native.Nat.{ℕ, ◌≤◌}
use native.Mathlib.Omega.{arith}
use Rattle.katan.specs.Checks.{Outcome, value, refused, Check, checked}
use Rattle.katan.proofs.Checked.{NoFault, checked_append, no_fault_found, all_passed, fault_found, fault_first, fault_later}
use Rattle.bench_record.specs.Fields.{decode}
use Rattle.bench_record.specs.Checks.{field_checks}
use Rattle.bench.specs.Calls.{Call, arrival, reading, Answer, state_after, answers_to}
use Rattle.bench.specs.Checks.{View, Turn, turn_of, decision}
use Rattle.bench.specs.Model.{Model, model_view, arrival_as, model_transition}
use Rattle.bench.specs.Bench.{bench_view, effect_as, arrive_of, State, after_effect, bench_transition}
use Rattle.bench.specs.Laws.{FirstFault}
use Rattle.bench.specs.TurnFirst.{form_first, OutOfTurn, OtherBytes, InTurn, FormFault, FromTo, Changed, TurnFirst, form_first_bench, form_first_model, SameOrReplaced, same, replaced, AllSameOrReplaced, none, one, ListsLeaveTheSame}
use Rattle.bench.proofs.Turns.{turns_of, Standing, stands, out, other, standing, find_none, find_9, find_10, memory_checks, decision_parts}
use Rattle.bench.proofs.Laws.{first_found}

-- ---- checks of any kind

-- none of these finds a fault
none_of : (cs : List Check) → ((c : Check) → Memᴰ c cs → c.fault ≡ false) → NoFault cs
none_of [] h = tt
none_of (c ∷ cs) h = (h c (Memᴰ.head refl), none_of cs (λ d m. h d (Memᴰ.tail m)))

-- a first fault is what the checks answer, whatever comes after them
answers_first : {A : Type 0} (cs : List Check) (k : ℕ) (r : Outcome A) → FirstFault cs k → checked cs r ≡ refused k
answers_first cs k r f =
    ap (λ (l : List Check). checked l r) f.in_order
    ∙ checked_append f.before (f.found ∷ f.after) r
    ∙ no_fault_found f.before (checked (f.found ∷ f.after) r) (none_of f.before f.none_before)
    ∙ fault_first f.found f.after r f.its_fault
    ∙ ap refused f.its_number

-- what is not refused may be checked in either order
either_order : {A : Type 0} (a : A) (bs cs ds : List Check) (r : Outcome A) → checked bs (checked cs (checked ds r)) ≡ value a → checked bs (checked ds (checked cs r)) ≡ value a
either_order a bs cs ds r e =
    let p = all_passed a bs (checked cs (checked ds r)) e in
    let q = all_passed a cs (checked ds r) p.1 in
    let t = all_passed a ds r q.1 in
    no_fault_found bs (checked ds (checked cs r)) p.0 ∙ no_fault_found ds (checked cs r) t.0 ∙ no_fault_found cs r q.0 ∙ t.1

-- the numbers of checks that lie between two
module _ (low high : ℕ) where
  abbrev Between : List Check → Type 0
  Between [] = Unit {0}
  Between (c ∷ cs) = (low ≤ c.number) × (c.number ≤ high) × Between cs

  between : (k : ℕ) (cs : List Check) → Between cs → checked cs (value (tt {0})) ≡ refused k → (low ≤ k) × (k ≤ high)
  between k [] b e = cc
  between k (c ∷ cs) b e = go c.fault refl (between k cs b.2)
    where
      go : (t : Bool) → c.fault ≡ t → (checked cs (value (tt {0})) ≡ refused k → (low ≤ k) × (k ≤ high)) → (low ≤ k) × (k ≤ high)
      go true f later = let n : c.number ≡ k = cc (fault_first c cs (value (tt {0})) f) in (omega (arith, b.0), omega (arith, b.1))
      go false f later = later (sym (fault_later c cs (value (tt {0})) f) ∙ e)

-- ---- one record by both orders

module _ (w : View) (s : List ℕ) where
  abbrev fields : List Check
  fields = field_checks w.variant (decode s)

  abbrev reply : Outcome Turn
  reply = value (turn_of w.last s)

  form_first_parts : form_first w s ≡ checked (memory_checks w s) (checked fields (checked (turns_of w s) reply))
  unfolding form_first
  form_first_parts = checked_append (memory_checks w s ++ fields) (turns_of w s) reply

  same_turn : (t : Turn) → (decision w s ≡ value t → form_first w s ≡ value t) × (form_first w s ≡ value t → decision w s ≡ value t)
  same_turn t = (
    λ e. form_first_parts ∙ either_order t (memory_checks w s) (turns_of w s) fields reply (sym (decision_parts w s) ∙ e),
    λ e. decision_parts w s ∙ either_order t (memory_checks w s) fields (turns_of w s) reply (sym form_first_parts ∙ e),
  )

  -- where 1 and 2 find no fault, the rest decides; where one does, it is the answer
  after_1_2 : NoFault (memory_checks w s) → decision w s ≡ checked (turns_of w s) (checked fields reply)
  after_1_2 n = decision_parts w s ∙ no_fault_found (memory_checks w s) (checked (turns_of w s) (checked fields reply)) n

  is_1_2 : (k : ℕ) → checked (memory_checks w s) (value (tt {0})) ≡ refused k → decision w s ≡ refused k
  is_1_2 k e = decision_parts w s ∙ fault_found (tt {0}) (checked (turns_of w s) (checked fields reply)) k (memory_checks w s) e

  -- a fault of 3 to 8 by the former order, and of 9 and 10 or none by this one
  module _ (k : ℕ) (f : FormFault w s k) where
    no_1_2 : NoFault (memory_checks w s)
    no_1_2 = (f.sound_bench, (f.right_size, tt))

    got : form_first w s ≡ refused k
    got = form_first_parts ∙ no_fault_found (memory_checks w s) (checked fields (checked (turns_of w s) reply)) no_1_2 ∙ answers_first fields k (checked (turns_of w s) reply) f.first

    out_of_turn : OutOfTurn w s → FromTo w s k 9
    out_of_turn o = (got, after_1_2 no_1_2 ∙ find_9 w s (checked fields reply) o)

    with_other_bytes : OtherBytes w s → FromTo w s k 10
    with_other_bytes o = (got, after_1_2 no_1_2 ∙ find_10 w s (checked fields reply) o)

    in-turn : InTurn w s → FromTo w s k k
    in-turn i = (got, after_1_2 no_1_2 ∙ find_none w s (checked fields reply) i ∙ answers_first fields k reply f.first)

  -- ---- where the replies differ

  -- 1 or 2 finds a fault
  both_memory : (k : ℕ) → checked (memory_checks w s) (value (tt {0})) ≡ refused k → decision w s ≡ form_first w s
  both_memory k e =
      is_1_2 k e
      ∙ sym (fault_found (tt {0}) (checked fields (checked (turns_of w s) reply)) k (memory_checks w s) e)
      ∙ sym form_first_parts

  -- after 1 and 2, it is enough to compare what follows
  both_after : checked (turns_of w s) (checked fields reply) ≡ checked fields (checked (turns_of w s) reply) → decision w s ≡ form_first w s
  both_after e = decision_parts w s ∙ ap (checked (memory_checks w s)) e ∙ sym form_first_parts

  both_in_turn : InTurn w s → decision w s ≡ form_first w s
  both_in_turn i = both_after (find_none w s (checked fields reply) i ∙ ap (checked fields) (sym (find_none w s reply i)))

  module _ (j : ℕ) (find : (x : Outcome Turn) → checked (turns_of w s) x ≡ refused j) where
    both_turn : NoFault fields → decision w s ≡ form_first w s
    both_turn n = both_after (find (checked fields reply) ∙ sym (no_fault_found fields (checked (turns_of w s) reply) n ∙ find reply))

    form_fault : (a b : Outcome (Unit {0})) → checked (memory_checks w s) (value tt) ≡ a → checked fields (value tt) ≡ b
        → ((k : ℕ) → FormFault w s k → (OutOfTurn w s × FromTo w s k 9) ⊎ (OtherBytes w s × FromTo w s k 10))
        → (decision w s ≡ form_first w s) ⊎ Changed w s
    form_fault (refused k) b e f now = inl (both_memory k e)
    form_fault (value x) (value y) e f now = inl (both_turn (all_passed tt fields (value tt) f).0)
    form_fault (value x) (refused k) e f now =
        let n = (all_passed tt (memory_checks w s) (value tt) e).0 in
        let there : FormFault w s k = record { sound_bench = n.0; right_size = n.1.0; first = first_found tt k fields f } in
        let numbers = between 3 8 k fields (search arith) f in
        inr (record { before = k; least = numbers.0; most = numbers.1; is_there = there; now = now k there })

  same_or_changed : (decision w s ≡ form_first w s) ⊎ Changed w s
  same_or_changed = go (standing w s)
    where
      go : Standing w s → (decision w s ≡ form_first w s) ⊎ Changed w s
      go (stands i) = inl (both_in_turn i)
      go (out o) = form_fault 9 (λ x. find_9 w s x o) _ _ refl refl (λ k f. inl (o, out_of_turn k f o))
      go (other o) = form_fault 10 (λ x. find_10 w s x o) _ _ refl refl (λ k f. inr (o, with_other_bytes k f o))

  -- ---- 3 to 8 are for a record in its turn

  module _ (k : ℕ) (least : 3 ≤ k) (most : k ≤ 8) (e : decision w s ≡ refused k) where
    no_turn_fault : (j : ℕ) → 9 ≤ j → ((x : Outcome Turn) → checked (turns_of w s) x ≡ refused j) → (a : Outcome (Unit {0})) → checked (memory_checks w s) (value tt) ≡ a → ⊥
    no_turn_fault j high find (value x) f =
        let r = sym (after_1_2 (all_passed tt (memory_checks w s) (value tt) f).0 ∙ find (checked fields reply)) ∙ e in
        let number : j ≡ k = cc in
        omega arith
    no_turn_fault j high find (refused i) f =
        let r = sym (is_1_2 i f) ∙ e in
        let number : i ≡ k = cc in
        let numbers = between 1 2 i (memory_checks w s) (search arith) f in
        omega arith

    only_in_turn : InTurn w s
    only_in_turn = go (standing w s)
      where
        go : Standing w s → InTurn w s
        go (stands i) = i
        go (out o) = absurd (no_turn_fault 9 (omega arith) (λ x. find_9 w s x o) _ refl)
        go (other o) = absurd (no_turn_fault 10 (omega arith) (λ x. find_10 w s x o) _ refl)

-- THEOREM: which records count and which are repeats is the same by both orders, and which replies change
pub turn_first : TurnFirst
turn_first w s =
    record {
      same_turn = same_turn w s;
      out_of_turn = out_of_turn w s;
      other_bytes = with_other_bytes w s;
      in-turn = in-turn w s;
      where_they_differ = λ differ. go differ (same_or_changed w s);
      only_in_turn = only_in_turn w s;
    }
  where
    go : (decision w s ≡ form_first w s → ⊥) → (decision w s ≡ form_first w s) ⊎ Changed w s → Changed w s
    go differ (inl e) = absurd (differ e)
    go differ (inr c) = c

-- ---- lists

-- a refused arrival leaves what it found: bench and link, or the reference model
module _ {S : Type 0} (x : S) (arrived : Outcome Turn → S × Answer) (refuses : (k : ℕ) → arrived (refused k) ≡ (x, refused k)) (w : View) (s : List ℕ) where
  abbrev Same : Outcome Turn → Outcome Turn → Type 0
  Same now before = ((arrived now).0 ≡ (arrived before).0) × SameOrReplaced (arrived now).1 (arrived before).1

  both_refused : (j k : ℕ) → (j ≡ 9) ⊎ (j ≡ 10) → 3 ≤ k → k ≤ 8 → Same (refused j) (refused k)
  both_refused j k turn least most = rw (refuses j, refuses k) (refl, replaced least most turn)

  one_arrival : Same (decision w s) (form_first w s)
  one_arrival = go (same_or_changed w s)
    where
      go : (decision w s ≡ form_first w s) ⊎ Changed w s → Same (decision w s) (form_first w s)
      go (inl e) = rw e (refl, same)
      go (inr c) = change c.before c.least c.most c.now
        where
          change : (k : ℕ) → 3 ≤ k → k ≤ 8 → (OutOfTurn w s × FromTo w s k 9) ⊎ (OtherBytes w s × FromTo w s k 10) → Same (decision w s) (form_first w s)
          change k least most (inl n) = rw (n.1.0, n.1.1) (both_refused 9 k (inl refl) least most)
          change k least most (inr n) = rw (n.1.0, n.1.1) (both_refused 10 k (inr refl) least most)

module _ {S : Type 0} (now before : S → Call → S × Answer) (each : (x : S) (c : Call) → ((now x c).0 ≡ (before x c).0) × SameOrReplaced (now x c).1 (before x c).1) where
  same_after : (calls : List Call) (x : S) → state_after now x calls ≡ state_after before x calls
  unfolding state_after
  same_after [] x = refl
  same_after (c ∷ calls) x = rw (each x c).0 (same_after calls (before x c).0)

  all_same_or_replaced : (calls : List Call) (x : S) → AllSameOrReplaced (answers_to now x calls) (answers_to before x calls)
  unfolding answers_to
  all_same_or_replaced [] x = none
  all_same_or_replaced (c ∷ calls) x =
      let rest : AllSameOrReplaced (answers_to now (now x c).0 calls) (answers_to before (before x c).0 calls) = rw (each x c).0 (all_same_or_replaced calls (before x c).0) in
      one (each x c).1 rest

bench_call : (x : State) (c : Call) → ((bench_transition x c).0 ≡ (form_first_bench x c).0) × SameOrReplaced (bench_transition x c).1 (form_first_bench x c).1
unfolding bench_transition form_first_bench arrive_of effect_as
bench_call x (arrival s) = one_arrival x (λ o. after_effect (effect_as o x.bench x.link s)) (λ k. refl) (bench_view x.bench x.link) s
bench_call x (reading i) = (refl, same)

model_call : (v : ℕ) (m : Model) (c : Call) → ((model_transition v m c).0 ≡ (form_first_model v m c).0) × SameOrReplaced (model_transition v m c).1 (form_first_model v m c).1
unfolding model_transition form_first_model arrival_as
model_call v m (arrival s) = one_arrival m (λ o. arrival_as o m s) (λ k. refl) (model_view v m) s
model_call v m (reading i) = (refl, same)

-- THEOREM: every list leaves the same lanes, the same link and the same counted records by both orders
pub lists_leave_the_same : ListsLeaveTheSame
lists_leave_the_same calls =
    record {
      same_state = same_after bench_transition form_first_bench bench_call calls;
      same_model = λ v. same_after (model_transition v) (form_first_model v) (model_call v) calls;
      bench-answers = all_same_or_replaced bench_transition form_first_bench bench_call calls;
      model-answers = λ v. all_same_or_replaced (model_transition v) (form_first_model v) (model_call v) calls;
    }
