use mathlib.Core.Path.{◌≡◌}
use Prim.Native.Nat.{◌-◌, ◌≤◌}
use Rattle.katan_keys.specs.Window.{window_number, ahead, times}
use Rattle.katan_keys.proofs.Window.after.Given as goal

abbrev pub invariant-loop : goal.invariant-loop
invariant-loop l = (window_number l.t ≡ times l.counter (ahead l.step.rounds) (window_number l.initial.t)) × (l.counter ≤ l.n)

abbrev pub decreases-loop : goal.decreases-loop
decreases-loop l = l.n - l.counter
