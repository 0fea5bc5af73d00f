use mathlib.Core.Path.{refl}
use Rattle.katan_smudged.specs.inner.Words.{settled}
use Rattle.katan_smudged.proofs.words.settled.Goals as goal

pub returns : goal.returns
unfolding settled
returns c = refl
