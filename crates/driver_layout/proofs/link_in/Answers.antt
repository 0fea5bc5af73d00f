use mathlib.Core.Path.{ap, ◌∙◌}
use native.Mathlib.Omega.{arith}
use Rattle.bench_record.specs.Codec.{record_in}
use Rattle.bench_record.proofs.Parts.{part_of, number_below}
use Rattle.katan.specs.Sizes.{word_bytes}
use Rattle.driver_layout.specs.Layout.{number_bytes, last_start, total_start, link_in}
use Rattle.katan.proofs.Numbers.{bytes_below}
use Rattle.driver_layout.proofs.link_in.Goals as goal

pub overflow_cast-last : goal.overflow_cast-last
overflow_cast-last c =
    let s = c.args.bytes.now in
    let known = c.type_inv.bytes in
    record { fits = rw (c.word_of-last.ensures ∙ part_of word_bytes last_start number_bytes s c.bytes_in.ensures (omega arith)) (bytes_below number_bytes s (λ j. (known j).fits)) }

pub overflow_cast-total : goal.overflow_cast-total
overflow_cast-total c =
    let s = c.args.bytes.now in
    record { fits = rw (c.word_of-total.ensures ∙ part_of word_bytes total_start number_bytes s c.bytes_in-2.ensures (omega arith)) (number_below s (λ j. (c.type_inv.bytes j).fits)) }

pub returns : goal.returns
unfolding link_in
returns c =
    let s = c.args.bytes.now in
    rw (c.word_of-last.ensures ∙ part_of word_bytes last_start number_bytes s c.bytes_in.ensures (omega arith), c.word_of-total.ensures ∙ part_of word_bytes total_start number_bytes s c.bytes_in-2.ensures (omega arith), c.record_in.ensures ∙ ap record_in c.bytes_in-3.ensures)
