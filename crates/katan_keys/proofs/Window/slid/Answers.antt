use Rattle.katan_keys.proofs.InWords.{high_fits, slid_words}
use borrow.Author.Rules.{rules}
use Rattle.katan_keys.proofs.Window.slid.Goals as goal

pub overflow_add-result : goal.overflow_add-result
overflow_add-result c =
    let step = c.args.step in
    record { fits = high_fits c.args.self.high step.rounds _ step.few step.some (search rules) }

pub returns : goal.returns
returns c =
    let w = c.args.self in
    let step = c.args.step in
    slid_words w.high w.low step.rounds (search rules) step.few c.args.e
