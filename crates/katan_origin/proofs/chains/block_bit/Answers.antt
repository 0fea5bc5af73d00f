use mathlib.Core.Path.{refl}
use Rattle.katan_origin.proofs.Formulas.{same_traced}
use Rattle.katan_origin.proofs.chains.block_bit.Goals as goal

pub returns : goal.returns
returns c = same_traced c.bit_of.ensures refl
