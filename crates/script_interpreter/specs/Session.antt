-- The interpreter over the bench and link of the code, and over document 01's machines.
-- Assumes nothing.
use Rattle.std.specs.Prelude.{ℕ, List, Option, Some, None}
use Rattle.katan.specs.Checks.{refused}
use Rattle.bench.specs.Calls.{Call, Answer}
use Rattle.bench.specs.Model.{Model, fresh_model, model_transition}
use Rattle.bench.specs.Bench.{State, fresh_bench, fresh_link, bench_transition}
use Rattle.script_answers.specs.Printed.{printed_as}
use Rattle.script_interpreter.specs.Interpreter.{on_line}
use Rattle.script_interpreter.specs.declared.OpenBench.{OpenBench}
use Rattle.script_interpreter.specs.declared.Session.{Session}
use Rattle.script_interpreter.specs.declared.LineResult.{LineResult}

-- ---- the code's bench and link

-- before any accepted bench line
abbrev pub no_bench : Session
no_bench = record { bench = None }

abbrev pub opened : State → Session
opened t = record { bench = Some (record { bench = t.bench; link = t.link }) }

abbrev pub open_bench : ℕ → Session
open_bench v = record { bench = Some (record { bench = fresh_bench v; link = fresh_link }) }

abbrev pub variant_in : Option OpenBench → ℕ
variant_in None = 0
variant_in (Some o) = o.bench.variant

abbrev pub variant_of : Session → ℕ
variant_of x = variant_in x.bench

abbrev pub state_of : OpenBench → State
state_of o = record { bench = o.bench; link = o.link }

-- check 1 refuses a call where no bench is open, as it does a call to a bench of variant 0
abbrev pub called : Option OpenBench → Call → Session × Answer
called None c = (no_bench, refused 1)
called (Some o) c = (opened (bench_transition (state_of o) c).0, (bench_transition (state_of o) c).1)

abbrev pub session_transition : Session → Call → Session × Answer
session_transition x c = called x.bench c

abbrev pub session_line : Session → List ℕ → Session × List ℕ
session_line = on_line variant_of open_bench session_transition

-- what the code gives back
abbrev pub result_of : Session × List ℕ → LineResult
result_of t = record { session = t.0; printed = printed_as t.1 }

-- ---- document 01's machines

-- no bench is open, or one of a variant, with the machines of its calls
pub data Machines : Type 0 where
  none : Machines
  running : (variant : ℕ) → Model → Machines

abbrev pub fresh : ℕ → Machines
fresh v = running v fresh_model

abbrev pub machines_variant : Machines → ℕ
machines_variant none = 0
machines_variant (running v m) = v

-- a call before any accepted bench line is refused 13
abbrev pub machines_transition : Machines → Call → Machines × Answer
machines_transition none c = (none, refused 13)
machines_transition (running v m) c = (running v (model_transition v m c).0, (model_transition v m c).1)
