use Prim.Native.Nat.{◌-◌, ◌/◌, ◌^◌}
use mathlib.Core.Path.{◌≡◌}
use lib.ListN.{length}
use Rattle.script_answers.proofs.Writing.{written}
use Rattle.script_answers.proofs.form.put_digits.Given as goal

abbrev pub invariant-loop-i : goal.invariant-loop-i
invariant-loop-i l =
    (l.left ≡ l.value / l.base ^ (length l.initial.out - l.i)) × (l.out ≡ written l.initial.out l.base l.value l.i)
