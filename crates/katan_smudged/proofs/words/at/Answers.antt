use borrow.Author.Rules.{rules}
use Rattle.katan_smudged.specs.inner.Words.{from}
use Rattle.katan_smudged.proofs.words.at.Goals as goal

pub returns : goal.returns
unfolding from
returns c = search rules
