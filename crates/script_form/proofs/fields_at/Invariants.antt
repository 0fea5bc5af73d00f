use mathlib.Core.Path.{◌≡◌}
use lib.ListN.{drop}
use Rattle.script_form.specs.scanner.Scan.{begin, scan}
use Rattle.script_form.proofs.fields_at.Given as goal

abbrev pub invariant-loop-p : goal.invariant-loop-p
invariant-loop-p l =
    scan l.digits l.line (begin l.offset) l.form ≡ scan l.digits l.line l.found (drop l.p-index l.form)
