use mathlib.Core.Path.{sym, ◌∙◌}
use Rattle.bench_moves.specs.Moves.{step_lane, move_lane}
use Rattle.bench_moves.proofs.lane_step.Goals as goal

pub returns-then-bad_lane : goal.returns-then-bad_lane
unfolding step_lane move_lane
returns-then-bad_lane c =
    let e = sym c.bad_lane.ensures ∙ c.if-bad_lane.true in
    (rw e, rw e)

pub sound_step-requires : goal.sound_step-requires
sound_step-requires c = sym c.bad_lane.ensures ∙ c.if-bad_lane.false

pub returns : goal.returns
unfolding step_lane move_lane
returns c =
    let e = sym c.bad_lane.ensures ∙ c.if-bad_lane.false in
    (rw e c.sound_step.ensures.0, rw e c.sound_step.ensures.1)
