use Rattle.katan_smudged.specs.inner.Words.{fb_words}
use Rattle.katan_smudged.proofs.words.fb_of.Goals as goal

pub returns : goal.returns
unfolding fb_words
returns g c = cc
