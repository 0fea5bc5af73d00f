use Rattle.std.proofs.Common.{refl, ℕ, List}
use Rattle.std.proofs.lemmas.Result.{err_from_is_err_and}
use Rattle.katan.specs.Checks.{value, refused, number_of}
use Rattle.katan.proofs.Words.{one_word}
use Rattle.driver_layout.proofs.Fitted.{bench_read}
use Rattle.driver_reads.proofs.Screens.{same_screen}
use Rattle.driver_reads.proofs.put_shown.Goals as goal

pub returns-in_err-shown-clause-value : goal.returns-in_err-shown-clause-value
returns-in_err-shown-clause-value c =
    let a = c.args in
    let sized = c.if-bench-ne-BENCH_LENGTH.false in
    let is = bench_read a.bench.now c.bench_in-found.result sized c.bench_in-found.ensures in
    let p = err_from_is_err_and c.from_residual.result c.from_residual.ensures.1 in
    rw (p.1, p.2) (same_screen a.bench.now a.mask a.out.now a.shown.now sized c.if-shown-ne-SHOWN_WORDS.false
    c.bench_in-found.result (refused (number_of c.in_err-shown.field-0.0)) is c.in_err-shown.ensures.result_value c.in_err-shown.ensures.out_after (refl {A = ℕ}, refl {A = List ℕ})).0

pub returns : goal.returns
returns c =
    let a = c.args in
    let sized = c.if-bench-ne-BENCH_LENGTH.false in
    let is = bench_read a.bench.now c.bench_in-found.result sized c.bench_in-found.ensures in
    let r = same_screen a.bench.now a.mask a.out.now a.shown.now sized c.if-shown-ne-SHOWN_WORDS.false
    c.bench_in-found.result (value c.in_ok-shown.field-0) is c.in_ok-shown.ensures.result_value c.in_ok-shown.ensures.out_after
    (refl, one_word c.in_ok-shown.field-0 a.shown.now c.if-shown-ne-SHOWN_WORDS.false) in
    record { value = r.0; out_after = r.1; shown_after = r.2 }
