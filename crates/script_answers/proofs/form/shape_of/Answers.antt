use Rattle.script_answers.proofs.Writing.{number_shape}
use Rattle.script_answers.proofs.form.shape_of.Goals as goal

pub returns-in-35 : goal.returns-in-35
returns-in-35 c = number_shape c.args.digits c.args.p c.args.v c.places.result c.places.ensures.0 c.in-35.is
