-- A call as the code has it, bench and link as the state that a call finds, an answer's bytes as the code holds them, and how they are written.
-- Assumes nothing.
use Rattle.std.specs.Prelude.{ℕ, ◌+◌, ◌≡◌, true, List, ◌++◌, length, take, drop}
use Rattle.bench.specs.declared.Bench.{Bench}
use Rattle.bench.specs.declared.Link.{Link}
use Rattle.bench.specs.Bench.{State}
use Rattle.bench.specs.Calls.{Call, arrival, reading}
use Rattle.bench_replay.specs.declared.answers.Fields.{Fields}
use Rattle.bench_replay.specs.declared.answers.Kind.{Kind}
use Rattle.bench_replay.specs.declared.answers.Kind.TheVariants.{Done, Again, At, Refused}
use Rattle.bench_replay.specs.declared.calls.Call.{Call as CallOf}
use Rattle.bench_replay.specs.declared.calls.Call.TheVariants.{Arrival, Read}
use Rattle.bench_replay.specs.Encoding.{call_size, is_call, first_call, answer_fields}

-- a call as the code has it
abbrev pub call_view : CallOf → Call
call_view (Arrival sent) = arrival sent.now
call_view (Read lane) = reading lane

-- bytes begin with a whole call, and those after it are the rest
pub record IsFirst (s : List ℕ) (c : Call) (rest : List ℕ) : Type 0 where
  pub whole : is_call s ≡ true
  pub call : c ≡ first_call s
  pub after : rest ≡ drop (call_size s) s

abbrev pub state_of : Bench → Link → State
state_of b l = record { bench = b; link = l }

-- the byte of an answer's kind
abbrev pub byte_of : Kind → ℕ
byte_of Done = 1
byte_of Again = 2
byte_of At = 3
byte_of Refused = 4

abbrev pub field_bytes : Fields → List ℕ
field_bytes f = answer_fields (byte_of f.kind) f.first f.second

-- a list with the elements from place i on replaced by those of another
unfoldable pub overwritten : List ℕ → ℕ → List ℕ → List ℕ
overwritten out i bytes = take i out ++ bytes ++ drop (i + length bytes) out
