use Rattle.lanes_rounds.proofs.Histories.{told}
use Rattle.lanes_rounds.proofs.rounds.row.Goals as goal

pub returns : goal.returns
returns g c = told g.W.Width.row c.row.result c.row.ensures g.W.Width.known
