use mathlib.Core.Path.{sym, ◌∙◌}
use borrow.Author.Tests.{eq-eqb, ne_eqb}
use Rattle.bench_screen.specs.Screen.{number_shown, bit_shown}
use Rattle.bench_screen.proofs.lane_seen.Goals as goal

pub returns-in-None : goal.returns-in-None
unfolding number_shown bit_shown
returns-in-None c = rw (sym c.bad_lane.ensures ∙ c.if-bad_lane.false, c.in-None.is)

pub returns-then-named-eq1 : goal.returns-then-named-eq1
unfolding number_shown bit_shown
returns-then-named-eq1 c = rw (sym c.bad_lane.ensures ∙ c.if-bad_lane.false, c.in-Some.is, eq-eqb _ _ c.if-named-eq1.true)

pub returns-else-named-eq1 : goal.returns-else-named-eq1
unfolding number_shown bit_shown
returns-else-named-eq1 c = rw (sym c.bad_lane.ensures ∙ c.if-bad_lane.false, c.in-Some.is, ne_eqb _ _ c.if-named-eq1.false)
