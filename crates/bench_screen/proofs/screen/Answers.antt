use mathlib.Core.Path.{ap, ◌∙◌}
use borrow.Author.Tests.{eq-eqb, ne_eqb}
use Rattle.std.proofs.lemmas.Result.{err_from_is_err_and}
use Rattle.katan.specs.Checks.{value}
use Rattle.bench_screen.specs.Screen.{screen_answer}
use Rattle.bench_screen.proofs.Turns.{if_ok, if_err}
use Rattle.bench_screen.proofs.screen.Goals as goal

pub returns-in_err-all : goal.returns-in_err-all
unfolding screen_answer
returns-in_err-all c =
    let found = if_err _ _ _ c.look.ensures c.in_err-all.was in
    let p = err_from_is_err_and c.from_residual.result c.from_residual.ensures.1 in
    record { result_value = rw (p.1, p.2 ∙ found.1, found.0); out_after = rw found.0 }

pub returns-then-out-ne-LANES : goal.returns-then-out-ne-LANES
unfolding screen_answer
returns-then-out-ne-LANES c =
    let found = if_ok _ _ _ c.look.ensures c.in_ok-all.was in
    record { result_value = rw (found.0, ne_eqb _ _ c.if-out-ne-LANES.true); out_after = rw (found.0, ne_eqb _ _ c.if-out-ne-LANES.true) }

pub returns-then-mask-eq0 : goal.returns-then-mask-eq0
unfolding screen_answer
returns-then-mask-eq0 c =
    let found = if_ok _ _ _ c.look.ensures c.in_ok-all.was in
    record { result_value = rw (found.0, eq-eqb _ _ c.if-out-ne-LANES.false, eq-eqb _ _ c.if-mask-eq0.true); out_after = rw (found.0, eq-eqb _ _ c.if-out-ne-LANES.false, eq-eqb _ _ c.if-mask-eq0.true) }

pub returns : goal.returns
unfolding screen_answer
returns c =
    let found = if_ok _ _ _ c.look.ensures c.in_ok-all.was in
    record {
      result_value = rw (found.0, eq-eqb _ _ c.if-out-ne-LANES.false, ne_eqb _ _ c.if-mask-eq0.false) (ap (λ x. value x.shown) found.1);
      out_after = rw (found.0, eq-eqb _ _ c.if-out-ne-LANES.false, ne_eqb _ _ c.if-mask-eq0.false) (c.copy_from_slice.ensures.after ∙ ap (λ x. x.numbers) found.1);
    }
