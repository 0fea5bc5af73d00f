-- The bench and the link: what an arrival makes of them, and what a read gives (document 01, "Records and turns").
-- Assumes nothing.
use Rattle.std.specs.Prelude.{ℕ, List, Option, Some, None, Result, Ok, Err, map, replicate}
use Rattle.katan.specs.declared.Refusal.{Refusal}
use Rattle.katan.specs.Checks.{number_of, Outcome, value, refused, Check}
use Rattle.katan.specs.Sizes.{lane_count}
use Rattle.bench_record.specs.Fields.{record_length, decode, kind}
use Rattle.bench.specs.declared.Loaded.{Loaded}
use Rattle.bench.specs.declared.Reading.{Reading}
use Rattle.bench.specs.declared.Bench.{Bench}
use Rattle.bench.specs.declared.Link.{Link}
use Rattle.bench.specs.declared.Reply.{Reply}
use Rattle.bench.specs.declared.Reply.TheVariants.{Done, Again}
use Rattle.bench.specs.declared.ArrivalResult.{ArrivalResult}
use Rattle.bench.specs.Calls.{Call, arrival, reading, done, again, at, Answer}
use Rattle.bench.specs.Checks.{LaneView, empty_lane, loaded_lane, View, bench_check, Turn, counts, repeats, decision, read_outcome}
use Rattle.bench.specs.Steps.{slots_as, total_as}

-- ---- document 01's answer for each that the code gives

abbrev pub reply_answer : Result Reply Refusal → Answer
reply_answer (Ok (Done n t)) = value (done n t)
reply_answer (Ok (Again n t)) = value (again n t)
reply_answer (Err r) = refused (number_of r)

abbrev pub reading_answer : Result Reading Refusal → Answer
reading_answer (Ok r) = value (at r)
reading_answer (Err r) = refused (number_of r)

-- ---- fresh

-- a fresh bench has 64 empty lanes
abbrev pub fresh_bench : ℕ → Bench
fresh_bench v = record { variant = v; slots = replicate lane_count None }

-- a fresh link: no number has counted
abbrev pub fresh_link : Link
fresh_link = record { last = 0; bytes = replicate record_length 0; total = 0 }

-- ---- what the checks look at

abbrev pub lane_view : Option Loaded → LaneView
lane_view None = empty_lane
lane_view (Some h) = loaded_lane (record { position = h.position; registers = h.registers })

abbrev pub lanes_of : Bench → List LaneView
lanes_of b = map lane_view b.slots

unfoldable pub bench_view : Bench → Link → View
bench_view b l = record { variant = b.variant; lanes = lanes_of b; last = l.last; latest = l.bytes }

-- 1 of the bench passed in
abbrev pub held_check : Bench → Check
held_check b = bench_check b.variant (lanes_of b)

-- ---- an arrival and a read

-- what an arrival leaves of bench and link, and answers
pub record Effect : Type 0 where
  pub bench : Bench
  pub link : Link
  pub answer : Answer

-- a record that counts: the link remembers its number, its record and its total
unfoldable pub counted_effect : Bench → List ℕ → Effect
counted_effect b s =
    record {
      bench = record { variant = b.variant; slots = slots_as b.variant (kind (decode s)) (decode s) b.slots };
      link = record { last = (decode s).number; bytes = s; total = total_as (kind (decode s)) (decode s) b.slots };
      answer = value (done (decode s).number (total_as (kind (decode s)) (decode s) b.slots));
    }

-- a repeat is answered 'again' with the same two; it and a refused record leave bench and link as they came
unfoldable pub effect_as : Outcome Turn → Bench → Link → List ℕ → Effect
effect_as (value counts) b l s = counted_effect b s
effect_as (value repeats) b l s = record { bench = b; link = l; answer = value (again l.last l.total) }
effect_as (refused k) b l s = record { bench = b; link = l; answer = refused k }

-- an arrival
unfoldable pub arrive_of : Bench → Link → List ℕ → Effect
arrive_of b l s = effect_as (decision (bench_view b l) s) b l s

-- what the code gives back, in document 01's answers
abbrev pub effect_of : ArrivalResult → Effect
effect_of a = record { bench = a.bench; link = a.link; answer = reply_answer a.reply }

-- a read
unfoldable pub read_of : Bench → ℕ → Answer
read_of b i = read_outcome b.variant (lanes_of b) i

-- ---- the calls of a list

-- an arrival gets bench and link and a read gets the bench, as the calls before left them
pub record State : Type 0 where
  pub bench : Bench
  pub link : Link

unfoldable pub fresh_state : ℕ → State
fresh_state v = record { bench = fresh_bench v; link = fresh_link }

abbrev pub after_effect : Effect → State × Answer
after_effect e = (record { bench = e.bench; link = e.link }, e.answer)

unfoldable pub bench_transition : State → Call → State × Answer
bench_transition x (arrival s) = after_effect (arrive_of x.bench x.link s)
bench_transition x (reading i) = (x, read_of x.bench i)
