-- Laws of every list, beside the claim of demand 3: a bench that refuses a sound record in its turn, gives a refusal that no check finds, takes a repeat
-- for a new record or has a lane that never moves breaks one of them.
-- Assumes nothing.
use Rattle.std.specs.Prelude.{ℕ, ◌+◌, ◌-◌, ◌^◌, ◌<◌, ◌≤◌, min, ◌≡◌, true, false, length}
use mathlib.Core.List.{List, [], ◌∷◌, ◌++◌, Memᴰ}
use Rattle.katan.specs.Counter.{rounds}
use Rattle.katan.specs.Key.{key_length, key_of}
use Rattle.katan.specs.Variant.{width_of}
use Rattle.katan.specs.Machine.{registers_at}
use Rattle.katan.specs.Checks.{value, refused, Check, checked, size_check}
use Rattle.katan.specs.Sizes.{lane_count}
use Rattle.bench_record.specs.Fields.{Kind, forward, back, kind_byte, record_length, decode}
use Rattle.bench_record.specs.Codec.{encode, load_record, move_record}
use Rattle.bench_record.specs.Checks.{field_checks}
use Rattle.bench.specs.Machine.{total_of}
use Rattle.bench.specs.Calls.{Call, arrival, done, again}
use Rattle.bench.specs.Checks.{LaneView, loaded_lane, arrival_checks}
use Rattle.bench.specs.Model.{model_view}
use Rattle.bench.specs.Claim.{bench_answers, model_after, counted_records, lane_after}

-- a record that meets none of 2 to 8
abbrev pub SoundRecord : (variant : ℕ) → List ℕ → Type 0
SoundRecord v s = checked {A = Unit {0}} (size_check record_length s ∷ field_checks v (decode s)) (value tt) ≡ value tt

-- the check of number k finds a fault, and none before it does
pub record FirstFault (checks : List Check) (k : ℕ) : Type 0 where
  pub before : List Check
  pub found : Check
  pub after : List Check
  pub in_order : checks ≡ before ++ found ∷ after
  pub its_number : found.number ≡ k
  pub its_fault : found.fault ≡ true
  pub none_before : (c : Check) → Memᴰ c before → c.fault ≡ false

-- after these calls, the record s arrives
abbrev pub and_arrival : List Call → List ℕ → List Call
and_arrival calls s = calls ++ arrival s ∷ []

module _ (v : ℕ) (calls : List Call) (s : List ℕ) where
  -- it counts, and is answered 'done' with its number and the total that the machines give
  pub record CountsNext : Type 0 where
    pub one_more : counted_records v (and_arrival calls s) ≡ s ∷ counted_records v calls
    pub answered : bench_answers v (and_arrival calls s)
        ≡ bench_answers v calls ++ value (done (decode s).number (total_of (decode s) 0 (model_after v calls).machines)) ∷ []

  -- it is answered 'again' with its number and the total with which it was answered 'done'; nothing counts, and nothing moves
  pub record AnsweredAgain : Type 0 where
    pub total : ℕ
    pub was_done : Memᴰ (value (done (decode s).number total)) (bench_answers v calls)
    pub answered : bench_answers v (and_arrival calls s) ≡ bench_answers v calls ++ value (again (decode s).number total) ∷ []
    pub none_counts : counted_records v (and_arrival calls s) ≡ counted_records v calls
    pub none_moves : (i : ℕ) → i < lane_count → lane_after v (and_arrival calls s) i ≡ lane_after v calls i

-- a loaded lane's position and registers
abbrev pub lane_shows : (position registers : ℕ) → LaneView
lane_shows p x = loaded_lane (record { position = record { 0 = p }; registers = x })

-- record 1 loads a lane
abbrev pub load_call : (lane position key block : ℕ) → Call
load_call i q key x = arrival (encode (load_record 1 i q (key_of key) x))

-- record 2 moves that lane alone
abbrev pub move_call : Kind → (lane count : ℕ) → Call
move_call k i c = arrival (encode (move_record (kind_byte k) 2 (2 ^ i) c))

-- lane i after block x was loaded at position q, and after a move from there
pub record Reached (v i q key x : ℕ) : Type 0 where
  pub by_load : lane_after v (load_call i q key x ∷ []) i ≡ lane_shows q x
  pub by_forward : (c : ℕ) → 1 ≤ c → c ≤ rounds
      → lane_after v (load_call i q key x ∷ move_call forward i c ∷ []) i ≡ lane_shows (min rounds (q + c)) (registers_at v key q x (min rounds (q + c)))
  pub by_back : (c : ℕ) → 1 ≤ c → c ≤ rounds
      → lane_after v (load_call i q key x ∷ move_call back i c ∷ []) i ≡ lane_shows (q - c) (registers_at v key q x (q - c))

-- the laws of a bench of variant v
pub record LawsOf (v : ℕ) : Type 0 where
  -- a record that meets none of 2 to 8 and is numbered last + 1 counts
  pub counting : (calls : List Call) (s : List ℕ) → SoundRecord v s → (decode s).number ≡ length (counted_records v calls) + 1 → CountsNext v calls s
  -- the exact bytes of the latest counted record are a repeat
  pub repeating : (calls : List Call) (s : List ℕ) (earlier : List (List ℕ)) → counted_records v calls ≡ s ∷ earlier → AnsweredAgain v calls s
  -- a record is refused k only where it has a fault of that number and none of an earlier check
  pub refusing : (calls : List Call) (s : List ℕ) (k : ℕ) → bench_answers v (and_arrival calls s) ≡ bench_answers v calls ++ refused k ∷ []
      → FirstFault (arrival_checks (model_view v (model_after v calls)) s) k
  -- every lane can be loaded at every position, and moves from there
  pub reaching : (i q key x : ℕ) → i < lane_count → q ≤ rounds → key < 2 ^ key_length → x < 2 ^ width_of v → Reached v i q key x

-- for every variant
abbrev pub Laws : Type 0
Laws = (v : ℕ) → 1 ≤ v → v ≤ 6 → LawsOf v
