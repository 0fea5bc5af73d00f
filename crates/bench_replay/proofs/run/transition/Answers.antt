use mathlib.Core.Path.{ap, ap₂, ◌∙◌}
use Rattle.bench_replay.specs.Encoding.{answer_bytes}
use Rattle.bench_replay.specs.inner.Steps.{call_view, state_of}
use Rattle.bench_replay.proofs.Running.{arrival_step, reading_step}
use Rattle.bench_replay.proofs.run.transition.Goals as goal

pub returns-in-Arrival : goal.returns-in-Arrival
returns-in-Arrival c =
    let a = c.args in
    let e = c.arrived.ensures in
    let t = arrival_step a.bench a.link _ c.arrive_once.result (ap call_view c.in-Arrival.is) c.arrive_once.ensures in
    (ap₂ state_of e.0 e.1 ∙ t.0, e.2 ∙ ap answer_bytes t.1)

pub returns-in-Read : goal.returns-in-Read
returns-in-Read c =
    let a = c.args in
    let t = reading_step a.bench a.link _ c.read.result (ap call_view c.in-Read.is) c.read.ensures in
    (t.0, c.read_fields.ensures ∙ ap answer_bytes t.1)
