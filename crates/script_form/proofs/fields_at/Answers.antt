use Prim.Native.Nat.{ℕ}
use mathlib.Core.Path.{◌∙◌, sym, ap}
use Rattle.std.proofs.lemmas.Result.{err_from_is_err_and}
use Rattle.script_form.specs.scanner.Scan.{begin, scan}
use Rattle.script_form.proofs.Fronts.{scan_end, scan_next}
use Rattle.script_form.proofs.fields_at.Goals as goal

pub returns-in_err-found : goal.returns-in_err-found
returns-in_err-found c =
    let a = c.args in
    let d = c.block_digits-digits in
    let l = c.loop-p in
    let p = err_from_is_err_and c.from_residual.result c.from_residual.ensures.1 in
    rw (p.1, p.2)
    (sym (l.invariant ∙ scan_next d.result a.line.now l.found a.form.now l.p-index c.loop-p-test.true _ c.in_err-found.ensures)
    ∙ ap (λ (n : ℕ). scan n a.line.now (begin a.offset) a.form.now) d.ensures)

pub loop-p-preserved : goal.loop-p-preserved
loop-p-preserved c =
    let l = c.loop-p in
    l.invariant ∙ scan_next c.block_digits-digits.result c.args.line.now l.found c.args.form.now l.p-index c.loop-p-test.true _ c.in_ok-found.ensures

pub returns : goal.returns
returns c =
    let a = c.args in
    let d = c.block_digits-digits in
    let l = c.loop-p in
    sym (l.invariant ∙ scan_end d.result a.line.now l.found a.form.now l.p-index c.loop-p-test.false)
    ∙ ap (λ (n : ℕ). scan n a.line.now (begin a.offset) a.form.now) d.ensures
