use mathlib.Core.Path.{refl}
use Rattle.katan_smudged.specs.inner.Words.{term}
use Rattle.katan_smudged.proofs.words.term.Goals as goal

pub returns : goal.returns
unfolding term
returns c = refl
