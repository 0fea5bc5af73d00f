use mathlib.Core.Path.{◌≡◌, ap, ◌∙◌}
use Rattle.std.specs.Prelude.{Ok}
use Rattle.bench.specs.declared.Reply.TheVariants.{Done, Again}
use Rattle.script_answers.specs.Printed.{answer_line}
use Rattle.script_answers.proofs.Lines.{done_fits, again_fits}
use Rattle.script_answers.proofs.reply_line.Goals as goal

pub filled-requires : goal.filled-requires
filled-requires c = done_fits c.from.result c.from-in-Ok-Done.result

pub filled-requires-in-Ok-Again : goal.filled-requires-in-Ok-Again
filled-requires-in-Ok-Again c = again_fits c.from-in-Ok-Again.result c.from-in-Ok-Again-2.result

pub returns-in-Ok-Done : goal.returns-in-Ok-Done
unfolding answer_line
returns-in-Ok-Done c =
    let e : c.args.reply ≡ Ok (Done c.in-Ok-Done.number c.in-Ok-Done.total) = c.in-Ok-Done.is ∙ ap Ok (rw c.in-Ok-Done.is at c.in-Ok-Done.field-0-is) in
    rw (e, ← c.from.ensures, ← c.from-in-Ok-Done.ensures) c.filled.ensures

pub returns-in-Ok-Again : goal.returns-in-Ok-Again
unfolding answer_line
returns-in-Ok-Again c =
    let e : c.args.reply ≡ Ok (Again c.in-Ok-Again.number c.in-Ok-Again.total) = c.in-Ok-Again.is ∙ ap Ok (rw c.in-Ok-Again.is at c.in-Ok-Again.field-0-is) in
    rw (e, ← c.from-in-Ok-Again.ensures, ← c.from-in-Ok-Again-2.ensures) c.filled-in-Ok-Again.ensures
