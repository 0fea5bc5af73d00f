use Rattle.katan_clocks.proofs.Shifts.{restored_fits, restored}
use borrow.Author.Rules.{rules}
use Rattle.katan_clocks.proofs.Clocks.restore.Goals as goal

pub overflow_add-result : goal.overflow_add-result
overflow_add-result c =
    let a = c.args in
    record { fits = restored_fits a.n a.self.count a.t c.requires.0 c.requires.1 a.l (search rules) a.self.some }

pub returns : goal.returns
returns c =
    let a = c.args in
    restored a.n a.self.count a.t c.requires.0 c.requires.1 a.l
