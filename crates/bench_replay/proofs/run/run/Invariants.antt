use mathlib.Core.Path.{◌≡◌}
use mathlib.Core.Bool.{true}
use mathlib.Core.List.{◌++◌}
use Prim.Native.Nat.{◌-◌, ◌≤◌}
use lib.ListN.{length, take}
use Rattle.bench.specs.Calls.{state_after, answers_to}
use Rattle.bench.specs.Bench.{bench_transition}
use Rattle.bench_replay.specs.Encoding.{calls_in, answers_bytes, fits}
use Rattle.bench_replay.specs.inner.Steps.{state_of}
use Rattle.bench_replay.proofs.run.run.Given as goal

abbrev pub invariant-loop-call : goal.invariant-loop-call
invariant-loop-call l =
    ((l.to ≤ length l.out) × (length l.out ≡ length l.initial.out))
    × (fits l.rest (length l.out - l.to) ≡ true)
    × (state_after bench_transition (state_of l.bench l.link) (calls_in l.rest) ≡ state_after bench_transition (state_of l.initial.bench l.initial.link) (calls_in l.calls))
    × (take l.to l.out ++ answers_bytes (answers_to bench_transition (state_of l.bench l.link) (calls_in l.rest)) ≡ answers_bytes (answers_to bench_transition (state_of l.initial.bench l.initial.link) (calls_in l.calls)))

abbrev pub decreases-loop-call : goal.decreases-loop-call
decreases-loop-call l = length l.rest
