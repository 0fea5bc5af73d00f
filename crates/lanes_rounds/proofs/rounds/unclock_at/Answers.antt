use Rattle.lanes_rounds.proofs.Clocks.{restored1, restored2}
use Rattle.lanes_rounds.proofs.Histories.{told_sound}
use Rattle.lanes_rounds.proofs.rounds.unclock_at.Goals as goal

pub returns-clause-a_after : goal.returns-clause-a_after
returns-clause-a_after g c =
    let k = c.row-v.ensures in
    restored1 g.W.Width.row _ k.same (told_sound k) c.args.at.0 c.args.a.now c.args.b.now c.args.u c.fa_rest.ensures

pub returns-clause-b_after : goal.returns-clause-b_after
returns-clause-b_after g c =
    let k = c.row-v.ensures in
    restored2 g.W.Width.row _ k.same (told_sound k) c.args.at.0 c.args.a.now c.args.b.now c.args.u c.fb_rest.ensures
