use mathlib.Core.Path.{refl}
use Rattle.katan_smudged.specs.inner.Words.{plus}
use Rattle.katan_smudged.proofs.words.SumBitXor.bitxor.Goals as goal

pub returns : goal.returns
unfolding plus
returns c = refl
