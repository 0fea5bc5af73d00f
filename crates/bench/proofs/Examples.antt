-- The script of document 01, and records and faults of every kind, as lists of calls whose answers are computed: what the bench and the reference model share,
-- fields, checks and turns, is tested here against document 01's own numbers.
-- Assumes nothing.
use mathlib.Core.Path.{◌≡◌, refl, ◌∙◌}
use mathlib.Core.List.{List, [], ◌∷◌, ◌++◌, map}
use Prim.Native.Nat.{ℕ, ◌-◌, ◌^◌}
use native.Mathlib.Omega.{arith}
use lib.ListN.{replicate, set}
use Rattle.katan.specs.Clock.{input_of}
use Rattle.katan.specs.Machine.{registers_at}
use Rattle.katan.specs.Checks.{Outcome, value, refused}
use Rattle.bench_record.specs.Fields.{same_bytes, kind_of, names_as}
use Rattle.bench_record.specs.Checks.{unknown, unused, wrong_count, none_named}
use Rattle.bench.specs.declared.Reading.{Reading}
use Rattle.bench.specs.Machine.{step_as, moved_as, step_all, total_of}
use Rattle.bench.specs.Calls.{Call, arrival, reading, done, again, at, Answer, answers_to}
use Rattle.bench.specs.Checks.{LaneView, empty_lane, loaded_lane, View, lane_fault, any_lane_fault, is_empty, arrival_checks, read_checks, Turn, counts, repeats, decision, lane_answer, read_outcome}
use Rattle.bench.specs.Model.{fresh_model, machine_view, model_view, after_counted, arrival_as, model_transition}
use Rattle.bench.specs.Claim.{bench_answers, model_answers}
use Rattle.bench.proofs.Lists.{every_list}

-- a record with small fields: each byte of the key is k, and the block is zero
abbrev bytes : (kind lane count number mask k : ℕ) → List ℕ
bytes kind lane count number mask k =
    (kind ∷ lane ∷ count ∷ 0 ∷ number ∷ 0 ∷ 0 ∷ 0 ∷ mask ∷ []) ++ replicate 7 0 ++ replicate 10 k ++ replicate 14 0

abbrev sent : (kind lane count number mask : ℕ) → Call
sent kind lane count number mask = arrival (bytes kind lane count number mask 0)

abbrev shows : (position registers : ℕ) → Reading
shows p x = record { position = record { 0 = p }; registers = x }

-- ---- the script

abbrev script : List Call
script = arrival (bytes 1 0 0 1 0 255) ∷ sent 2 0 5 2 1 ∷ sent 2 0 5 2 1 ∷ reading 0 ∷ []

abbrev printed : List Answer
printed = value (done 1 0) ∷ value (done 2 5) ∷ value (again 2 5) ∷ value (at (shows 5 0x00f8001e)) ∷ []

script_model : model_answers 1 script ≡ printed
unfolding input_of registers_at kind_of names_as unknown unused wrong_count none_named step_as moved_as step_all total_of answers_to lane_fault any_lane_fault same_bytes is_empty arrival_checks read_checks decision lane_answer read_outcome fresh_model machine_view model_view after_counted arrival_as model_transition
script_model = refl

-- THEOREM: the script of document 01
pub script_bench : bench_answers 1 script ≡ printed
script_bench = (every_list 1 (omega arith) (omega arith) script).same_answers ∙ script_model

-- ---- records of all four kinds near both ends, and a fault of each number 2 to 11; on variant 4, whose rounds are cheap to compute

abbrev cases : List Call
cases =
    sent 1 0 0 0 0 ∷ sent 1 0 0 1 0 ∷ sent 1 0 0 1 0 ∷ sent 1 0 1 1 0 ∷ sent 1 0 0 3 0
    ∷ sent 1 63 0 2 0 ∷ sent 1 64 0 3 0 ∷ reading 63 ∷ reading 64 ∷ reading 1
    ∷ arrival [] ∷ sent 5 0 0 3 0 ∷ sent 1 0 0 3 1 ∷ arrival (set (bytes 1 0 0 3 0 0) 39 1)
    ∷ sent 1 0 255 3 0 ∷ sent 2 0 255 3 1 ∷ sent 2 0 0 3 1 ∷ arrival (set (bytes 1 0 0 3 0 0) 30 1) ∷ sent 4 0 0 3 0
    ∷ sent 1 1 250 3 0 ∷ sent 2 0 3 4 7 ∷ sent 2 0 254 5 2 ∷ sent 2 0 1 6 2 ∷ sent 3 0 2 7 3 ∷ sent 3 0 254 8 1 ∷ sent 4 0 0 9 3 ∷ reading 0 ∷ sent 2 0 5 10 3
    ∷ []

pub cases_model : model_answers 4 cases
    ≡ refused 9 ∷ value (done 1 0) ∷ value (again 1 0) ∷ refused 10 ∷ refused 9
    ∷ value (done 2 0) ∷ refused 5 ∷ value (at (shows 0 0)) ∷ refused 5 ∷ refused 11
    ∷ refused 2 ∷ refused 3 ∷ refused 4 ∷ refused 4
    ∷ refused 6 ∷ refused 6 ∷ refused 6 ∷ refused 7 ∷ refused 8
    ∷ value (done 3 0) ∷ value (done 4 6) ∷ value (done 5 1) ∷ value (done 6 0) ∷ value (done 7 4) ∷ value (done 8 1) ∷ value (done 9 0) ∷ refused 11 ∷ value (done 10 0)
    ∷ []
unfolding input_of registers_at kind_of names_as unknown unused wrong_count none_named step_as moved_as step_all total_of answers_to lane_fault any_lane_fault same_bytes is_empty arrival_checks read_checks decision lane_answer read_outcome fresh_model machine_view model_view after_counted arrival_as model_transition
cases_model = refl

-- ---- the order of the checks: records with two faults or one, and lanes that meet 1

abbrev view : (variant : ℕ) → LaneView → (last : ℕ) → List ℕ → View
view v lane last latest = record { variant = v; lanes = lane ∷ []; last = last; latest = latest }

abbrev final : List ℕ
final = set (set (set (set (bytes 4 0 0 0 1 0) 4 255) 5 255) 6 255) 7 255

abbrev decide : List (View × List ℕ) → List (Outcome Turn)
decide = map (λ (x : View × List ℕ). decision x.0 x.1)

pub order : decide (
    (view 0 empty_lane 0 [], bytes 1 0 0 1 0 0) ∷ (view 7 empty_lane 0 [], []) ∷ (view 1 (loaded_lane (shows 255 0)) 0 [], []) ∷ (view 1 (loaded_lane (shows 0 (2 ^ 32))) 0 [], [])
    ∷ (view 1 (loaded_lane (shows 254 (2 ^ 32 - 1))) 0 [], bytes 1 0 0 1 0 0) ∷ (view 2 (loaded_lane (shows 0 (2 ^ 32))) 0 [], bytes 1 0 0 1 0 0)
    ∷ (view 1 empty_lane 0 [], 5 ∷ []) ∷ (view 1 empty_lane 0 [], replicate 40 0) ∷ (view 1 empty_lane 0 [], bytes 4 0 0 0 1 0)
    ∷ (view 1 empty_lane 0 [], set (bytes 5 0 0 1 0 0) 3 1) ∷ (view 1 empty_lane 0 [], bytes 1 64 0 1 1 0) ∷ (view 1 empty_lane 0 [], bytes 1 64 255 1 0 0)
    ∷ (view 1 empty_lane 0 [], set (bytes 1 0 255 1 0 0) 30 1) ∷ (view 1 empty_lane 0 [], set (bytes 1 0 0 1 0 0) 30 1) ∷ (view 1 empty_lane 0 [], bytes 4 0 0 1 0 0)
    ∷ (view 1 empty_lane (2 ^ 32 - 1) final, final) ∷ (view 1 empty_lane (2 ^ 32 - 1) final, bytes 4 0 0 0 1 0) ∷ (view 1 empty_lane (2 ^ 32 - 1) final, set final 8 2) ∷ [])
    ≡ refused 1 ∷ refused 1 ∷ refused 1 ∷ refused 1
    ∷ value counts ∷ value counts
    ∷ refused 2 ∷ refused 9 ∷ refused 9
    ∷ refused 3 ∷ refused 4 ∷ refused 5
    ∷ refused 6 ∷ refused 7 ∷ refused 8
    ∷ value repeats ∷ refused 9 ∷ refused 10
    ∷ []
unfolding kind_of unknown unused wrong_count none_named lane_fault any_lane_fault same_bytes arrival_checks decision
order = refl

-- ---- a fault of each number 3 to 8, in a record numbered n: out of turn, with other bytes than the latest, in turn, and the exact repeat of a faulty
-- record that a link made by hand remembers

abbrev form_faults : (n : ℕ) → List (List ℕ)
form_faults n =
    bytes 5 0 0 n 0 0 ∷ bytes 1 0 0 n 1 0 ∷ bytes 1 64 0 n 0 0
    ∷ bytes 2 0 255 n 1 0 ∷ set (bytes 1 0 0 n 0 0) 30 1 ∷ bytes 4 0 0 n 0 0
    ∷ []

abbrev faulty : (n : ℕ) → (last : ℕ) → (List ℕ → List ℕ) → List (Outcome Turn)
faulty n last latest = map (λ (s : List ℕ). decision (view 1 empty_lane last (latest s)) s) (form_faults n)

pub turn_before_form : faulty 2 0 (λ s. []) ++ faulty 7 8 (λ s. s) ++ faulty 8 8 (λ s. set s 39 1) ++ faulty 9 8 (λ s. s) ++ faulty 8 8 (λ s. s)
    ≡ replicate 6 (refused 9) ++ replicate 6 (refused 9) ++ replicate 6 (refused 10)
    ++ (refused 3 ∷ refused 4 ∷ refused 5 ∷ refused 6 ∷ refused 7 ∷ refused 8 ∷ [])
    ++ (refused 3 ∷ refused 4 ∷ refused 5 ∷ refused 6 ∷ refused 7 ∷ refused 8 ∷ [])
unfolding kind_of unknown unused wrong_count none_named lane_fault any_lane_fault same_bytes arrival_checks decision
turn_before_form = refl
