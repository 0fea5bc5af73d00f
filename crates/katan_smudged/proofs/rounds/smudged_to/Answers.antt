use mathlib.Core.Path.{ap, ◌∙◌}
use Rattle.katan.specs.Key.{key_length}
use Rattle.katan.specs.Variant.{row_of, width_of}
use Rattle.katan.specs.declared.Row.{Row}
use Rattle.katan.proofs.Undo.{sound}
use Rattle.katan_sheet.specs.Cells.{cells}
use Rattle.katan_sheet.specs.Sheet.{bits_given}
use Rattle.katan_sheet.specs.Answers.{key_known}
use Rattle.katan_smudged.specs.inner.Words.{registers_words, block_words}
use Rattle.katan_smudged.proofs.Loads.{length-given, loaded_holds, key_holds, result_is}
use Rattle.katan_smudged.proofs.rounds.smudged_to.Goals as goal

pub returns : goal.returns
returns c =
    let a = c.args in
    let v = a.variant in
    let key = key_known a.key in
    let w = c.source_of.ensures in
    let s = c.registers_of.ensures ∙ ap (λ (r : Row). registers_words r a.block) c.requires.0 in
    c.block_of.ensures
    ∙ ap (λ (r : Row). block_words r c.run_of.result) c.requires.0
    ∙ result_is v key a.block a.to.0 c.run_of.result
    (c.run_of.ensures (bits_given key_length key) (cells (row_of v) (bits_given (width_of v) a.block)) (length-given key_length key)
    (rw w.0 (key_holds v key (rw w.0 at w.1) c.requires.4))
    (rw s (loaded_holds (row_of v) (sound v) a.block c.requires.2 c.requires.3)))
