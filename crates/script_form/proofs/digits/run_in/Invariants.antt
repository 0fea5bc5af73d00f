use Prim.Native.Nat.{◌-◌, ◌<◌, ◌^◌}
use mathlib.Core.Path.{◌≡◌}
use lib.ListN.{drop}
use Rattle.script_form.specs.scanner.Scan.{run_in}
use Rattle.script_form.proofs.digits.run_in.Given as goal

abbrev pub invariant-loop-b : goal.invariant-loop-b
invariant-loop-b l =
    (l.count ≡ l.b-index) × (l.value < 16 ^ l.count) × (run_in l.base l.most 0 0 l.text ≡ run_in l.base (l.most - l.count) l.value l.count (drop l.count l.text))
