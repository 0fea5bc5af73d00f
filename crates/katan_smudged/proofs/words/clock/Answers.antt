use Rattle.katan_smudged.specs.inner.Words.{entered_words}
use Rattle.katan_smudged.proofs.words.clock.Goals as goal

pub returns : goal.returns
unfolding entered_words
returns g c = cc
