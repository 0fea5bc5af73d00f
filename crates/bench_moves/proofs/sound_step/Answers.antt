use mathlib.Core.Path.{◌∙◌}
use native.Mathlib.Omega.{arith}
use Rattle.bench.specs.Steps.{forward_lane, back_lane, forward_moved, back_moved}
use Rattle.bench_moves.proofs.Sound.{held, held_in}
use Rattle.bench_moves.proofs.sound_step.Goals as goal

pub overflow_sub-h : goal.overflow_sub-h
overflow_sub-h c = held_in c.args.variant c.in-Forward-Some.is-1 c.requires

pub loaded_at-requires : goal.loaded_at-requires
loaded_at-requires c =
    let is = c.in-Forward-Some.is-1 in
    (held c.args.variant is c.requires, omega (arith, held_in c.args.variant is c.requires))

pub loaded_at-requires-in-Back-Some : goal.loaded_at-requires-in-Back-Some
loaded_at-requires-in-Back-Some c =
    let is = c.in-Back-Some.is-1 in
    (held c.args.variant is c.requires, omega (arith, held_in c.args.variant is c.requires))

pub returns-in-Forward-Some : goal.returns-in-Forward-Some
unfolding forward_lane forward_moved
returns-in-Forward-Some c =
    let a = c.in-Forward-Some in
    (simp (a.is-0, a.is-1, c.loaded_at.ensures, c.min-moved.ensures), simp (a.is-0, a.is-1) c.min-moved.ensures)

pub returns-in-Back-Some : goal.returns-in-Back-Some
unfolding back_lane back_moved
returns-in-Back-Some c =
    let a = c.in-Back-Some in
    (simp (a.is-0, a.is-1, c.loaded_at-in-Back-Some.ensures, c.min-moved-in-Back-Some.ensures), simp (a.is-0, a.is-1) ((omega arith) ∙ c.min-moved-in-Back-Some.ensures))

pub returns-in_default : goal.returns-in_default
unfolding forward_lane forward_moved
returns-in_default c = (simp (c.in_default.is-0, c.in_default.is-1), simp (c.in_default.is-0, c.in_default.is-1))

pub returns-in_default-2 : goal.returns-in_default-2
unfolding back_lane back_moved
returns-in_default-2 c = (simp (c.in_default.is-0, c.in_default.is-1), simp (c.in_default.is-0, c.in_default.is-1))
