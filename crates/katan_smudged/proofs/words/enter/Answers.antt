use Rattle.katan_smudged.specs.inner.Words.{enter}
use Rattle.katan_smudged.proofs.words.enter.Goals as goal

pub returns : goal.returns
unfolding enter
returns c = cc
