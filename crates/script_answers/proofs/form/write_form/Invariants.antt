use Prim.Native.Nat.{◌≤◌}
use mathlib.Core.Path.{◌≡◌}
use mathlib.Core.List.{◌++◌}
use lib.ListN.{length, take, drop}
use Rattle.script_form.specs.Form.{fill}
use Rattle.script_answers.proofs.form.write_form.Given as goal

abbrev pub invariant-loop-p : goal.invariant-loop-p
invariant-loop-p l =
    (l.n ≤ l.p-index) × (l.at ≤ length l.out)
    × (take l.at l.out ++ fill l.digits (drop l.p-index l.form) (drop l.n l.values) ≡ fill l.digits l.form l.values) × (drop l.at l.out ≡ drop l.at l.initial.out)
