use mathlib.Core.Path.{ap, ◌∙◌}
use Prim.Native.Nat.{ℕ}
use Rattle.katan.specs.Key.{key_number}
use Rattle.katan.specs.Clock.{unround}
use Rattle.katan.specs.declared.Row.{Row}
use Rattle.katan_keys.specs.Window.{window_number, previous_source}
use Rattle.katan_clocks.specs.Clocks.{lowest}
use Rattle.katan_registers.proofs.Laws.{round_moves_back}
use Rattle.katan_registers.proofs.rounds.Machine.unround.Goals as goal

pub returns : goal.returns
returns g c =
    let a = c.args in
    let m = a.self.now in
    let ts = m.tables.now in
    let u = c.input_of-u.result in
    round_moves_back m.variant ts.counters ts.numbers ts.counters_are ts.numbers_are a.r a.h _ c.requires u (key_number m.key) c.input_of-u.ensures
    (c.unround.ensures ∙ ap (λ (v : Row). unround v (lowest u) a.h.registers) m.its_row)
    (c.previous_source-before.ensures ∙ ap (λ (n : ℕ). previous_source m.variant n (window_number a.h.source)) c.round.ensures)
