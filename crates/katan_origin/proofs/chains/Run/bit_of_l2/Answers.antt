use mathlib.Core.Path.{◌∙◌}
use native.Mathlib.Omega.{arith}
use Rattle.katan_origin.proofs.Places.{row_sound, of_l2}
use Rattle.katan_origin.proofs.chains.Run.bit_of_l2.Goals as goal

pub returns : goal.returns
returns c =
    let run = c.args.self.now in
    let s = row_sound run in
    c.block_bit.ensures ∙ of_l2 run.row run.block c.args.i (omega (arith, s.top2))
