use mathlib.Core.Path.{◌∙◌}
use borrow.Author.Rules.{rules}
use Rattle.katan_keys.proofs.InWords.{ahead_words}
use Rattle.katan_keys.proofs.Window.ahead.Goals as goal

pub returns : goal.returns
returns c =
    let w = c.args.self in
    let step = c.args.step in
    c.slid.ensures ∙ ahead_words w.high w.low step.rounds (search rules) step.few
