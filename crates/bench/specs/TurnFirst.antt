-- Turn before form (document 02, (vi)): 9 and 10 are looked for just after 2. Said beside the former order: which records count, and which are repeats,
-- is the same; which replies change, and to what; every list leaves what it left.
-- Assumes nothing.
use Rattle.std.specs.Prelude.{ℕ, ◌+◌, ◌<◌, ◌≤◌, ◌≡◌, false, List, [], ◌∷◌, ◌++◌, ◌↔◌, ◌⊎◌}
use Rattle.katan.specs.Checks.{Outcome, value, refused, Check, checked, size_check}
use Rattle.bench_record.specs.Fields.{record_length, decode}
use Rattle.bench_record.specs.Checks.{field_checks}
use Rattle.bench.specs.Calls.{Call, arrival, reading, Answer, state_after, answers_to}
use Rattle.bench.specs.Checks.{View, bench_check, turn_checks, Turn, turn_of, decision, read_outcome}
use Rattle.bench.specs.Model.{Model, model_view, arrival_as, model_transition}
use Rattle.bench.specs.Bench.{bench_view, effect_as, read_of, State, after_effect, bench_transition}
use Rattle.bench.specs.Laws.{FirstFault}

-- ---- the former order, by rising number: 1, 2, 3 to 8, 9, 10

abbrev pub form_first_checks : View → List ℕ → List Check
form_first_checks w s =
    bench_check w.variant w.lanes
    ∷ size_check record_length s
    ∷ field_checks w.variant (decode s)
    ++ turn_checks w.last w.latest s

unfoldable pub form_first : View → List ℕ → Outcome Turn
form_first w s = checked (form_first_checks w s) (value (turn_of w.last s))

-- ---- one record, on whatever the checks look at

module _ (w : View) (s : List ℕ) where
  -- its number is neither last + 1 nor a nonzero last
  abbrev pub OutOfTurn : Type 0
  OutOfTurn = ((decode s).number ≡ w.last + 1 → ⊥) × (0 < w.last → (decode s).number ≡ w.last → ⊥)

  -- it is numbered a nonzero last, with other bytes than the link's record
  abbrev pub OtherBytes : Type 0
  OtherBytes = (0 < w.last) × ((decode s).number ≡ w.last) × (s ≡ w.latest → ⊥)

  -- it is numbered last + 1, or a nonzero last with the bytes of the link's record
  abbrev pub InTurn : Type 0
  InTurn = ((decode s).number ≡ w.last + 1) ⊎ ((0 < w.last) × ((decode s).number ≡ w.last) × (s ≡ w.latest))

  -- it meets neither 1 nor 2, and the first of 3 to 8 that it meets is k
  pub record FormFault (k : ℕ) : Type 0 where
    pub sound_bench : (bench_check w.variant w.lanes).fault ≡ false
    pub right_size : (size_check record_length s).fault ≡ false
    pub first : FirstFault (field_checks w.variant (decode s)) k

  -- it got k, and now gets j
  abbrev pub FromTo : (before now : ℕ) → Type 0
  FromTo k j = (form_first w s ≡ refused k) × (decision w s ≡ refused j)

  -- a reply that has changed: from a fault of 3 to 8, which is there, to 9 or 10
  pub record Changed : Type 0 where
    pub before : ℕ
    pub least : 3 ≤ before
    pub most : before ≤ 8
    pub is_there : FormFault before
    pub now : (OutOfTurn × FromTo before 9) ⊎ (OtherBytes × FromTo before 10)

  pub record OnlyRepliesChange : Type 0 where
    -- it counts exactly when it counted, and is a repeat exactly when it was one
    pub same_turn : (t : Turn) → (decision w s ≡ value t) ↔ (form_first w s ≡ value t)
    -- the replies to a faulty record: two cases that change, and one that does not, also where it is the exact repeat of a faulty record that a link made by
    -- hand remembers
    pub out_of_turn : (k : ℕ) → FormFault k → OutOfTurn → FromTo k 9
    pub other_bytes : (k : ℕ) → FormFault k → OtherBytes → FromTo k 10
    pub in-turn : (k : ℕ) → FormFault k → InTurn → FromTo k k
    -- no others change
    pub where_they_differ : (decision w s ≡ form_first w s → ⊥) → Changed
    -- a driver's recovery goes by the turn: only a record in its turn gets 3 to 8
    pub only_in_turn : (k : ℕ) → 3 ≤ k → k ≤ 8 → decision w s ≡ refused k → InTurn

-- for every bench, link and record, and every reference model
abbrev pub TurnFirst : Type 0
TurnFirst = (w : View) (s : List ℕ) → OnlyRepliesChange w s

-- ---- lists

-- the calls by the former order: of bench and link, and of the reference model
unfoldable pub form_first_bench : State → Call → State × Answer
form_first_bench x (arrival s) = after_effect (effect_as (form_first (bench_view x.bench x.link) s) x.bench x.link s)
form_first_bench x (reading i) = (x, read_of x.bench i)

unfoldable pub form_first_model : ℕ → Model → Call → Model × Answer
form_first_model v m (arrival s) = arrival_as (form_first (model_view v m) s) m s
form_first_model v m (reading i) = (m, read_outcome v (model_view v m).lanes i)

-- an answer is what it was, or was 3 to 8 and is 9 or 10
pub data SameOrReplaced : (now before : Answer) → Type 0 where
  same : {a : Answer} → SameOrReplaced a a
  replaced : {j k : ℕ} → 3 ≤ k → k ≤ 8 → (j ≡ 9) ⊎ (j ≡ 10) → SameOrReplaced (refused j) (refused k)

-- one by one
pub data AllSameOrReplaced : (now before : List Answer) → Type 0 where
  none : AllSameOrReplaced [] []
  one : {a b : Answer} {l m : List Answer} → SameOrReplaced a b → AllSameOrReplaced l m → AllSameOrReplaced (a ∷ l) (b ∷ m)

-- from any bench and link, and for any model
pub record LeavesTheSame (calls : List Call) : Type 0 where
  -- the same lanes and the same link
  pub same_state : (x : State) → state_after bench_transition x calls ≡ state_after form_first_bench x calls
  -- the same machines and the same counted records
  pub same_model : (v : ℕ) (m : Model) → state_after (model_transition v) m calls ≡ state_after (form_first_model v) m calls
  -- and answers that differ as said
  pub bench-answers : (x : State) → AllSameOrReplaced (answers_to bench_transition x calls) (answers_to form_first_bench x calls)
  pub model-answers : (v : ℕ) (m : Model) → AllSameOrReplaced (answers_to (model_transition v) m calls) (answers_to (form_first_model v) m calls)

-- for every list
abbrev pub ListsLeaveTheSame : Type 0
ListsLeaveTheSame = (calls : List Call) → LeavesTheSame calls
