use mathlib.Core.Path.{refl, ◌∙◌}
use Rattle.bench.specs.Steps.{slots_as, total_as}
use Rattle.bench_moves.specs.declared.Motion.TheVariants.{Forward, Back, Clear}
use Rattle.bench_moves.proofs.Sound.{all_step, none_moved}
use Rattle.bench_stepping.proofs.counted.step.Goals as goal

pub returns-in-Ok-Load : goal.returns-in-Ok-Load
unfolding total_as
returns-in-Ok-Load c = rw (rw c.in-Ok-Load.field-0-is at c.in-Ok-Load.ensures) (c.load.ensures, refl)

pub returns-in-Ok-Forward : goal.returns-in-Ok-Forward
unfolding slots_as total_as
returns-in-Ok-Forward c =
    rw (rw c.in-Ok-Forward.field-0-is at c.in-Ok-Forward.ensures) (all_step c.args.bench (Forward _) _ c.requires.0 _ _ c.step_lanes.ensures)

pub returns-in-Ok-Back : goal.returns-in-Ok-Back
unfolding slots_as total_as
returns-in-Ok-Back c =
    rw (rw c.in-Ok-Back.field-0-is at c.in-Ok-Back.ensures) (all_step c.args.bench (Back _) _ c.requires.0 _ _ c.step_lanes-in-Ok-Back.ensures)

pub returns-in-Ok-Clear : goal.returns-in-Ok-Clear
unfolding slots_as total_as
returns-in-Ok-Clear c =
    let e = all_step c.args.bench Clear _ c.requires.0 _ _ c.step_lanes-in-Ok-Clear.ensures in
    rw (rw c.in-Ok-Clear.field-0-is at c.in-Ok-Clear.ensures) (e.0, e.1 ∙ none_moved _ _)

pub returns-in-Err : goal.returns-in-Err
unfolding slots_as total_as
returns-in-Err c = rw c.in-Err.ensures.0 (refl, refl)
