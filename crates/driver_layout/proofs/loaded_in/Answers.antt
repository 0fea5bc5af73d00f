use mathlib.Core.Path.{ap, ◌∙◌}
use native.Mathlib.Omega.{arith}
use Rattle.bench_record.proofs.Parts.{part_of}
use Rattle.katan.specs.Key.{key_of}
use Rattle.katan.specs.Sizes.{word_bytes, key_bytes}
use Rattle.driver_layout.specs.Layout.{key_start, registers_start, loaded_in}
use Rattle.driver_layout.proofs.loaded_in.Goals as goal

pub returns : goal.returns
unfolding loaded_in
returns c =
    let s = c.args.bytes.now in
    rw (c.key_of.ensures ∙ ap key_of (part_of key_bytes key_start key_bytes s c.bytes_in.ensures (omega arith)), c.word_of.ensures ∙ part_of word_bytes registers_start word_bytes s c.bytes_in-2.ensures (omega arith), c.position_in.ensures)
