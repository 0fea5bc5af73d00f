use mathlib.Core.Path.{◌∙◌}
use Rattle.katan_clocks.proofs.AtOnce.{back}
use Rattle.katan_clocks.proofs.Steps.{gone_back}
use Rattle.katan_clocks.proofs.Clocks.go_back.Goals as goal

pub returns : goal.returns
returns c =
    let a = c.args in
    let v = a.self in
    gone_back v.row v.count a.w a.s c.fa_rest.ensures c.fb_rest.ensures c.restore.ensures c.restore-2.ensures
    ∙ back v.row v.sound v.count c.requires.0 c.requires.1 a.w a.s
