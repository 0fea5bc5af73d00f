use Rattle.katan_smudged.specs.inner.Words.{times}
use Rattle.katan_smudged.proofs.words.product.Goals as goal

pub returns : goal.returns
unfolding times
returns c = c.term.ensures
