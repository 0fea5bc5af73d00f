-- Turned away (document 01): the checks of an arrival and of a read, in order, and what follows where they find no fault.
-- Assumes nothing.
use Rattle.std.specs.Prelude.{ℕ, ◌+◌, List, [], ◌∷◌, ◌++◌, Bool, true, false, not, ◌&&◌, ◌||◌, get_or, eqb}
use Rattle.katan.specs.Bit.{pick}
use Rattle.katan.specs.Checks.{Outcome, value, refused, Check, checked, size_check, variant_check, position_check, block_check}
use Rattle.bench_record.specs.Fields.{record_length, same_bytes, decode}
use Rattle.bench_record.specs.Checks.{nonzero, field_checks, lane_check}
use Rattle.bench.specs.declared.Reading.{Reading}
use Rattle.bench.specs.Calls.{at, Answer}

-- what a check looks at, of a lane: that it is empty, or its reading
pub data LaneView : Type 0 where
  empty_lane : LaneView
  loaded_lane : Reading → LaneView

-- and what the checks of an arrival look at: the variant, the lanes, the last counted number and its record
pub record View : Type 0 where
  pub variant : ℕ
  pub lanes : List LaneView
  pub last : ℕ
  pub latest : List ℕ

-- 1: the variant is not 1 to 6, or a loaded lane has a position over 254 or a register bit set at n or above
unfoldable pub lane_fault : ℕ → LaneView → Bool
lane_fault v empty_lane = false
lane_fault v (loaded_lane r) = (position_check r.position.0).fault || (block_check v r.registers).fault

unfoldable pub any_lane_fault : ℕ → List LaneView → Bool
any_lane_fault v [] = false
any_lane_fault v (x ∷ xs) = lane_fault v x || any_lane_fault v xs

abbrev pub bench_check : ℕ → List LaneView → Check
bench_check v lanes = record { number = 1; fault = (variant_check v).fault || any_lane_fault v lanes }

-- 9: the number is neither last + 1 nor a nonzero last
abbrev pub turn_check : ℕ → List ℕ → Check
turn_check last s = record { number = 9; fault = not (eqb (decode s).number (last + 1) || nonzero last && eqb (decode s).number last) }

-- 10: the number is last but the bytes differ
abbrev pub repeat_check : ℕ → List ℕ → List ℕ → Check
repeat_check last latest s = record { number = 10; fault = eqb (decode s).number last && not (same_bytes latest s) }

-- 9 and 10
abbrev pub turn_checks : ℕ → List ℕ → List ℕ → List Check
turn_checks last latest s = turn_check last s ∷ repeat_check last latest s ∷ []

-- 11: the lane read is empty
unfoldable pub is_empty : LaneView → Bool
is_empty empty_lane = true
is_empty (loaded_lane r) = false

abbrev pub empty_check : LaneView → Check
empty_check x = record { number = 11; fault = is_empty x }

-- the checks of an arrival, in order: 1, 2 of a record that is not 40 bytes, then 9 and 10 (document 02, (vi)), then 3 to 8
unfoldable pub arrival_checks : View → List ℕ → List Check
arrival_checks w s =
    bench_check w.variant w.lanes
    ∷ size_check record_length s
    ∷ turn_checks w.last w.latest s
    ++ field_checks w.variant (decode s)

-- the checks of a read: 1, 5, 11
unfoldable pub read_checks : ℕ → List LaneView → ℕ → List Check
read_checks v lanes i = bench_check v lanes ∷ lane_check i ∷ empty_check (get_or lanes i empty_lane) ∷ []

-- a record that meets none of 1 to 10 counts if numbered last + 1 and is otherwise a repeat
pub data Turn : Type 0 where
  counts repeats : Turn

abbrev pub turn_of : ℕ → List ℕ → Turn
turn_of last s = pick (eqb (decode s).number (last + 1)) counts repeats

unfoldable pub decision : View → List ℕ → Outcome Turn
decision w s = checked (arrival_checks w s) (value (turn_of w.last s))

-- reading a lane gives position and registers
unfoldable pub lane_answer : LaneView → Answer
lane_answer empty_lane = refused 11
lane_answer (loaded_lane r) = value (at r)

unfoldable pub read_outcome : ℕ → List LaneView → ℕ → Answer
read_outcome v lanes i = checked (read_checks v lanes i) (lane_answer (get_or lanes i empty_lane))
