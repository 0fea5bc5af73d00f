use mathlib.Core.Path.{◌∙◌}
use Rattle.katan_clocks.proofs.AtOnce.{forth}
use Rattle.katan_clocks.proofs.Steps.{gone}
use Rattle.katan_clocks.proofs.Clocks.go.Goals as goal

pub returns : goal.returns
returns c =
    let a = c.args in
    let v = a.self in
    gone v.row v.count a.w a.s c.fa-a.ensures c.fb-b.ensures c.enter.ensures c.enter-2.ensures ∙ forth v.row v.sound v.count v.some v.few a.w a.s
