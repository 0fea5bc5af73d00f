use Rattle.katan_clocks.proofs.Steps.{one_unround}
use Rattle.katan_clocks.proofs.unround.Goals as goal

pub returns : goal.returns
returns g c = one_unround _ _ c.of_round-one.ensures.row _ c.of_round-one.ensures.count _ _ c.in_each.ensures _ _ c.go_back.ensures
