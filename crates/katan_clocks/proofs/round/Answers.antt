use Rattle.katan_clocks.proofs.Steps.{one_round}
use Rattle.katan_clocks.proofs.round.Goals as goal

pub returns : goal.returns
returns g c = one_round _ _ c.of_round-one.ensures.row _ c.of_round-one.ensures.count _ _ c.in_each.ensures _ _ c.go.ensures
