use mathlib.Core.Path.{◌≡◌, ap, ◌∙◌}
use Prim.Native.Nat.{ℕ, ◌<◌}
use native.Mathlib.Omega.{arith}
use borrow.Author.Tests.{lt-ltb}
use Rattle.katan.specs.Counter.{rounds}
use Rattle.katan.specs.Key.{key_number}
use Rattle.katan_keys.specs.Window.{window_number}
use Rattle.katan_registers.specs.inner.Tables.{table_input}
use Rattle.katan_registers.proofs.Laws.{table-input}
use Rattle.katan_registers.proofs.round_input.Goals as goal

pub returns : goal.returns
returns c =
    let a = c.args in
    let v = a.variant in
    let key = key_number a.key in
    let r = a.at.0 in
    let early : r < rounds = omega (arith, c.from-r.ensures) in
    let ts = c.new.result in
    let w = window_number c.source_at-source.result in
    let here : c.input_of.result ≡ table_input v ts.counters ts.numbers r w = c.input_of.ensures ∙ ap (λ (i : ℕ). table_input v ts.counters ts.numbers i w) c.from-r.ensures in
    rw (lt-ltb r rounds early) (here ∙ table-input ts.counters ts.numbers ts.counters_are ts.numbers_are v key r w early c.source_at-source.ensures)
