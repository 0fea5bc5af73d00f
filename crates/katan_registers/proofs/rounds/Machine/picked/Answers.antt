use Rattle.katan_registers.proofs.Laws.{named}
use Rattle.katan_registers.proofs.rounds.Machine.picked.Goals as goal

pub bounds-picks-from : goal.bounds-picks-from
bounds-picks-from g c =
    let ts = c.args.self.now.tables.now in
    rw c.from.ensures (named ts.numbers ts.numbers_are c.args.i c.requires)
