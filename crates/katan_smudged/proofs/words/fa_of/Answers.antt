use Rattle.katan_smudged.specs.inner.Words.{fa_words}
use Rattle.katan_smudged.proofs.words.fa_of.Goals as goal

pub returns : goal.returns
unfolding fa_words
returns g c = cc
