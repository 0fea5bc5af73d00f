use mathlib.Core.Path.{◌≡◌, refl, sym, ◌∙◌}
use mathlib.Core.Bool.{false}
use borrow.Author.Rules.{rules}
use Rattle.katan.specs.Checks.{variant_check}
use Rattle.katan.proofs.Variants.{is_variant}
use Rattle.bench_replay.proofs.Promise.{promise_1, promise_2, promise_run}
use Rattle.bench_replay.proofs.replay.Goals as goal

pub returns-then-bad_variant : goal.returns-then-bad_variant
returns-then-bad_variant c =
    let a = c.args in
    let both = promise_1 a.variant a.calls.now a.out.now _ _ _ (sym c.bad_variant.ensures ∙ c.if-bad_variant.true) refl c.fresh_bench-bench.ensures refl in
    record { answer_value = both.0; out_after = both.1.0; bench_value = both.1.1.0; by_index = both.1.1.1 }

pub returns-then-not-fits : goal.returns-then-not-fits
returns-then-not-fits c =
    let a = c.args in
    let sound : (variant_check a.variant).fault ≡ false = search rules in
    let both = promise_2 a.variant a.calls.now a.out.now _ _ _ sound (sym c.fits.ensures ∙ c.if-not-fits.true) refl c.fresh_bench-bench.ensures refl in
    record { answer_value = both.0; out_after = both.1.0; bench_value = both.1.1.0; by_index = both.1.1.1 }

pub run-requires : goal.run-requires
run-requires c = sym c.fits.ensures ∙ c.if-not-fits.false

pub returns : goal.returns
returns c =
    let a = c.args in
    let run = c.run in
    let sound = sym c.bad_variant.ensures ∙ c.if-bad_variant.false in
    let whole = sym c.fits.ensures ∙ c.if-not-fits.false in
    let both = promise_run a.variant a.calls.now a.out.now _ _ run.result _ _ sound (is_variant a.variant sound) whole refl
    c.fresh_bench-bench.ensures c.fresh_link.ensures run.ensures.0 run.ensures.1 in
    record { answer_value = both.0; out_after = both.1.0; bench_value = both.1.1.0; by_index = both.1.1.1 }
