use mathlib.Core.Path.{ap, ◌∙◌}
use Prim.Native.Nat.{ℕ}
use Rattle.katan.specs.Key.{key_number}
use Rattle.katan.specs.Stride.{stride_of}
use Rattle.katan_keys.specs.Window.{window_number, next_source}
use Rattle.katan_registers.proofs.Laws.{stride_moves}
use Rattle.katan_registers.proofs.rounds.Machine.stride.Goals as goal

pub returns : goal.returns
returns g c =
    let a = c.args in
    let m = a.self.now in
    let ts = m.tables.now in
    stride_moves m.variant ts.counters ts.numbers ts.counters_are ts.numbers_are a.r a.h _ a.picks.now c.requires.0 g.W.Width.row m.its_row c.inputs-w.result (key_number m.key) c.requires.1 c.inputs-w.ensures c.stride.ensures
    (c.next_source.ensures ∙ ap (λ (n : ℕ). next_source m.variant n (window_number a.h.source)) (c.stride-2.ensures ∙ ap stride_of m.its_row))
