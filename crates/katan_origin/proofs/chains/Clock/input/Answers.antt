use Rattle.katan_origin.proofs.Places.{input_is}
use Rattle.katan_origin.proofs.chains.Clock.input.Goals as goal

pub returns : goal.returns
returns c = input_is c.args.self _ c.round_input.ensures
