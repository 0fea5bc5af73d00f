use mathlib.Core.Path.{sym, ap, subst}
use native.Mathlib.Omega.{arith}
use Rattle.katan.specs.declared.Row.{Row}
use Rattle.lanes_rounds.specs.Words.{width_row}
use Rattle.lanes_rounds.specs.inner.Buffers.{Carried}
use Rattle.lanes_rounds.proofs.AllRounds.{other_width}
use Rattle.lanes_rounds.proofs.at_width.Goals as goal

pub returns-in-32 : goal.returns-in-32
returns-in-32 g c =
    let d = g.D.Way in
    subst (λ (v : Row). Carried d.made d.FROM d.TO v c.args.keys.now c.args.words.now c.all_rounds.result) (sym (ap width_row c.in-32.is)) c.all_rounds.ensures

pub returns-in-48 : goal.returns-in-48
returns-in-48 g c =
    let d = g.D.Way in
    subst (λ (v : Row). Carried d.made d.FROM d.TO v c.args.keys.now c.args.words.now c.all_rounds-in-48.result) (sym (ap width_row c.in-48.is)) c.all_rounds-in-48.ensures

pub returns-in_default : goal.returns-in_default
returns-in_default g c =
    let d = g.D.Way in
    subst (λ (v : Row). Carried d.made d.FROM d.TO v c.args.keys.now c.args.words.now c.all_rounds-in_default.result) (sym (other_width c.args.n (λ e. omega arith) (λ e. omega arith))) c.all_rounds-in_default.ensures
