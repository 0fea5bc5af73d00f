-- A call where no bench is open is answered as a fresh bench of variant 0 answers it: check 1 refuses, and nothing changes.
-- Assumes nothing.
use mathlib.Core.Path.{◌≡◌, refl, sym, ap}
use Rattle.std.specs.Prelude.{None}
use Rattle.katan.specs.Checks.{refused}
use Rattle.bench.specs.Calls.{Call, arrival, reading, Answer}
use Rattle.bench.specs.Checks.{arrival_checks, decision, read_checks, read_outcome}
use Rattle.bench.specs.Bench.{State, fresh_state, bench_view, effect_as, arrive_of, read_of, bench_transition}
use Rattle.script_interpreter.specs.Session.{no_bench, called}

pub none_refuses : (c : Call) → bench_transition (fresh_state 0) c ≡ (fresh_state 0, refused 1)
unfolding bench_transition fresh_state bench_view arrival_checks decision effect_as arrive_of read_checks read_outcome read_of
none_refuses (arrival s) = refl
none_refuses (reading i) = refl

pub none_called : (c : Call) → called None c ≡ (no_bench, (bench_transition (fresh_state 0) c).1)
none_called c = ap (λ (t : State × Answer). (no_bench, t.1)) (sym (none_refuses c))
