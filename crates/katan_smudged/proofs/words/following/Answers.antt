use Rattle.katan_smudged.specs.inner.Words.{following}
use Rattle.katan_smudged.proofs.words.following.Goals as goal

pub returns : goal.returns
unfolding following
returns c = cc
