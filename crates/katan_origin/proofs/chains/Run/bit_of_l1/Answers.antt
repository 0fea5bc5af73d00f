use mathlib.Core.Path.{◌∙◌}
use Rattle.katan_origin.proofs.Places.{of_l1}
use Rattle.katan_origin.proofs.chains.Run.bit_of_l1.Goals as goal

pub returns : goal.returns
returns c = let run = c.args.self.now in c.block_bit.ensures ∙ of_l1 run.row run.block c.args.i
