use Rattle.katan_keys.proofs.InWords.{behind_words}
use borrow.Author.Rules.{rules}
use Rattle.katan_keys.proofs.Window.behind.Goals as goal

pub returns : goal.returns
returns c =
    let w = c.args.self in
    let step = c.args.step in
    behind_words w.high w.low step.rounds (search rules) step.few
