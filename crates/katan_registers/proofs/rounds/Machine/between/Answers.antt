use mathlib.Core.Path.{◌≡◌, sym, ap, ◌∙◌}
use Prim.Native.Nat.{◌-◌, ◌%◌, ◌^◌}
use Rattle.katan.specs.Key.{key_number}
use Rattle.katan.specs.Clock.{run, unrun, block, registers, input_of}
use Rattle.katan.specs.Variant.{row_of}
use Rattle.katan.specs.declared.Row.{Row}
use Rattle.katan.proofs.Undo.{sound}
use Rattle.katan.proofs.Positions.{block_in_word, at_later, at_earlier}
use Rattle.katan_registers.proofs.Laws.{loaded_fits, ran_fits, unran_fits}
use Rattle.katan_registers.proofs.rounds.Machine.between.Goals as goal

pub returns-then-from-to : goal.returns-then-from-to
returns-then-from-to g c =
    let a = c.args in
    let m = a.self.now in
    let v = m.variant in
    let is : c.row-row.result ≡ row_of v = c.row-row.ensures ∙ m.its_row in
    let l = c.registers_of-s in
    let s = l.ensures ∙ ap (λ (r : Row). registers r a.x) is in
    let f = ran_fits (row_of v) (sound v) (key_number m.key) a.from.0 (a.to.0 - a.from.0) l.result (loaded_fits (row_of v) (sound v) a.x c.requires.2 _ s) _ v c.run.ensures in
    c.block_of.ensures
    ∙ ap (λ (r : Row). block r c.run.result % 2 ^ 64) is
    ∙ block_in_word (row_of v) (sound v) c.run.result f
    ∙ ap (block (row_of v)) (c.run.ensures ∙ ap (run (row_of v) (input_of v (key_number m.key)) a.from.0 (a.to.0 - a.from.0)) s)
    ∙ sym (at_later v (key_number m.key) a.from.0 a.x a.to.0 c.if-from-to.true)

pub returns-else-from-to : goal.returns-else-from-to
returns-else-from-to g c =
    let a = c.args in
    let m = a.self.now in
    let v = m.variant in
    let is : c.row-row.result ≡ row_of v = c.row-row.ensures ∙ m.its_row in
    let l = c.registers_of-s in
    let s = l.ensures ∙ ap (λ (r : Row). registers r a.x) is in
    let f = unran_fits (row_of v) (sound v) (key_number m.key) a.to.0 (a.from.0 - a.to.0) l.result (loaded_fits (row_of v) (sound v) a.x c.requires.2 _ s) _ v c.unrun.ensures in
    c.block_of-else-from-to.ensures
    ∙ ap (λ (r : Row). block r c.unrun.result % 2 ^ 64) is
    ∙ block_in_word (row_of v) (sound v) c.unrun.result f
    ∙ ap (block (row_of v)) (c.unrun.ensures ∙ ap (unrun (row_of v) (input_of v (key_number m.key)) a.to.0 (a.from.0 - a.to.0)) s)
    ∙ sym (at_earlier v (key_number m.key) a.from.0 a.x a.to.0 c.if-from-to.false)
