-- Two students, two lanes (document 02, (ii)): it does not matter who presses first. Said over the definitions of demand 3's claim.
-- Assumes nothing.
use Rattle.std.specs.Prelude.{ℕ, ◌+◌, ◌^◌, ◌<◌, ◌≤◌, ◌≡◌, true, false, ◌&&◌, ◌⊎◌, length, get_or, take, drop}
use mathlib.Core.List.{List, [], ◌∷◌, ◌++◌, Memᴰ}
use Rattle.katan.specs.Bit.{bytes_of}
use Rattle.katan.specs.Checks.{value, refused}
use Rattle.katan.specs.Key.{key_of}
use Rattle.katan.specs.Sizes.{lane_count}
use Rattle.bench_record.specs.declared.Record.{Record}
use Rattle.bench_record.specs.Fields.{Kind, load, forward, back, clear, other, kind_byte, decode, kind, names}
use Rattle.bench_record.specs.Codec.{encode, load_record, move_record}
use Rattle.bench.specs.Machine.{total_of}
use Rattle.bench.specs.Calls.{Call, arrival, done, again, Answer, answers_to}
use Rattle.bench.specs.Model.{model_transition}
use Rattle.bench.specs.Bench.{bench_transition}
use Rattle.bench.specs.Claim.{bench_after, bench_answers, model_after, model_answers, counted_records, last_number}
use Rattle.bench.specs.Laws.{SoundRecord, load_call}

-- ---- numbering a record

-- the record s with number n, in bytes 4 to 7; all others stay
unfoldable pub numbered : ℕ → List ℕ → List ℕ
numbered n s = take 4 s ++ bytes_of 4 n ++ drop 8 s

pub record Renumbered (n : ℕ) (s : List ℕ) : Type 0 where
  pub same_length : length (numbered n s) ≡ length s
  pub same_bytes : (i : ℕ) → (i < 4) ⊎ (8 ≤ i) → get_or (numbered n s) i 0 ≡ get_or s i 0
  pub its_number : n < 2 ^ 32 → (decode (numbered n s)).number ≡ n

-- numbering writes the number and nothing else
abbrev pub Numbering : Type 0
Numbering = (n : ℕ) (s : List ℕ) → 8 ≤ length s → Renumbered n s

-- ---- two records, put in turn

-- they name no common lane
abbrev pub Apart : List ℕ → List ℕ → Type 0
Apart s t = (i : ℕ) → i < lane_count → (names (decode s) i && names (decode t) i) ≡ false

-- none of these calls sends the record s
abbrev pub NotSent : List ℕ → List Call → Type 0
NotSent s more = Memᴰ (arrival s) more → ⊥

module _ (v : ℕ) (calls : List Call) where
  -- the last counted number after these calls
  abbrev pub last_after : ℕ
  last_after = length (counted_records v calls)

  -- the total that a record gets if it is the next to count
  abbrev pub total_next : List ℕ → ℕ
  total_next s = total_of (decode s) 0 (model_after v calls).machines

  -- two answers 'done', with these totals
  abbrev pub both_done : (first second : ℕ) → List Answer
  both_done a b = value (done (last_after + 1) a) ∷ value (done (last_after + 2) b) ∷ []

  module _ (s t : List ℕ) where
    -- both are sound but for their numbers, and two numbers are left for them
    pub record Ready : Type 0 where
      pub sound_s : SoundRecord v s
      pub sound_t : SoundRecord v t
      pub two_left : last_after + 2 ≤ last_number

    -- s numbered last + 1, and then t numbered last + 2
    abbrev pub in_turn : List Call
    in_turn = calls ++ arrival (numbered (last_after + 1) s) ∷ arrival (numbered (last_after + 2) t) ∷ []

    -- neither is sent with number last + 2
    abbrev pub NeitherSent : List Call → Type 0
    NeitherSent more = NotSent (numbered (last_after + 2) s) more × NotSent (numbered (last_after + 2) t) more

  -- each is answered 'done' with its number, and with the same total in both orders
  pub record SameTotals (answers : List Call → List Answer) (s t : List ℕ) : Type 0 where
    pub first_order : answers (in_turn s t) ≡ answers calls ++ both_done (total_next s) (total_next t)
    pub second_order : answers (in_turn t s) ≡ answers calls ++ both_done (total_next t) (total_next s)

  -- of the bench and of the reference model
  pub record InEitherOrder (s t : List ℕ) : Type 0 where
    -- all lanes end alike, keys included: it is the same bench, and the same machines
    pub same_bench : (bench_after v (in_turn s t)).bench ≡ (bench_after v (in_turn t s)).bench
    pub same_machines : (model_after v (in_turn s t)).machines ≡ (model_after v (in_turn t s)).machines
    pub bench-answers : SameTotals (bench_answers v) s t
    pub model-answers : SameTotals (model_answers v) s t
    -- no later call tells the orders apart, but for the later of the two records, which is the link's latest
    pub bench_later : (more : List Call) → NeitherSent s t more
        → answers_to bench_transition (bench_after v (in_turn s t)) more ≡ answers_to bench_transition (bench_after v (in_turn t s)) more
    pub model_later : (more : List Call) → NeitherSent s t more
        → answers_to (model_transition v) (model_after v (in_turn s t)) more ≡ answers_to (model_transition v) (model_after v (in_turn t s)) more

-- for every variant, every list of calls and every two such records
abbrev pub EitherOrder : Type 0
EitherOrder = (v : ℕ) → 1 ≤ v → v ≤ 6 → (calls : List Call) (s t : List ℕ) → Ready v calls s t → Apart s t → InEitherOrder v calls s t

-- ---- there are such records

-- a record of each kind that names lane i alone, not yet numbered
abbrev pub record_on : Kind → ℕ → Record
record_on load i = load_record 0 i 0 (key_of 0) 0
record_on forward i = move_record (kind_byte forward) 0 (2 ^ i) 1
record_on back i = move_record (kind_byte back) 0 (2 ^ i) 1
record_on clear i = move_record (kind_byte clear) 0 (2 ^ i) 0
record_on other i = move_record (kind_byte other) 0 0 0

abbrev pub on_lane : Kind → ℕ → List ℕ
on_lane k i = encode (record_on k i)

pub record KindAndLane (k : Kind) (i : ℕ) : Type 0 where
  pub its_kind : kind (decode (on_lane k i)) ≡ k
  pub names_it : names (decode (on_lane k i)) i ≡ true

-- after every list of at most 4,294,967,293 calls, for every two of the four kinds and every two lanes
abbrev pub SomeReady : Type 0
SomeReady =
    (v : ℕ) → 1 ≤ v → v ≤ 6 → (calls : List Call) → length calls + 2 ≤ last_number
    → (j k : Kind) → (j ≡ other → ⊥) → (k ≡ other → ⊥) → (a b : ℕ) → a < lane_count → b < lane_count → (a ≡ b → ⊥)
    → KindAndLane j a × KindAndLane k b × Ready v calls (on_lane j a) (on_lane k b) × Apart (on_lane j a) (on_lane k b)

-- ---- where the order matters: a common lane; the later record, sent again

-- lane 5, loaded at position 2: forward by 3 and then back by 5 it ends at 0, the other way round at 3
abbrev pub five_loaded : List Call
five_loaded = load_call 5 2 0 0 ∷ []

abbrev pub five_forward : List ℕ
five_forward = encode (move_record (kind_byte forward) 0 (2 ^ 5) 3)

abbrev pub five_back : List ℕ
five_back = encode (move_record (kind_byte back) 0 (2 ^ 5) 5)

pub record CommonLane : Type 0 where
  pub ready : Ready 4 five_loaded five_forward five_back
  pub not_apart : Apart five_forward five_back → ⊥
  pub differ : (bench_after 4 (in_turn 4 five_loaded five_forward five_back)).bench ≡ (bench_after 4 (in_turn 4 five_loaded five_back five_forward)).bench → ⊥

-- lane 5 goes forward and lane 6 is loaded: the load, sent with number 3, is a repeat after its own order and has other bytes after the other
abbrev pub six_load : List ℕ
six_load = on_lane load 6

abbrev pub six_again : List Call
six_again = arrival (numbered 3 six_load) ∷ []

pub record LaterRecord : Type 0 where
  pub own_order : answers_to bench_transition (bench_after 4 (in_turn 4 five_loaded five_forward six_load)) six_again ≡ value (again 3 0) ∷ []
  pub other_order : answers_to bench_transition (bench_after 4 (in_turn 4 five_loaded six_load five_forward)) six_again ≡ refused 10 ∷ []
  pub left_out : NeitherSent 4 five_loaded five_forward six_load six_again → ⊥
