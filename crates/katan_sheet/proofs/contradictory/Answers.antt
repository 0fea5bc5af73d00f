use borrow.Author.Rules.{rules}
use Rattle.katan_sheet.proofs.Clashes.{key_clash}
use Rattle.katan_sheet.proofs.contradictory.Goals as goal

pub returns-then-key-ne0 : goal.returns-then-key-ne0
returns-then-key-ne0 c = rw (key_clash c.args.key (search rules) (search rules)) (search rules)

pub returns-else-key-ne0 : goal.returns-else-key-ne0
returns-else-key-ne0 c = rw (key_clash c.args.key (search rules) (search rules)) (search rules)
