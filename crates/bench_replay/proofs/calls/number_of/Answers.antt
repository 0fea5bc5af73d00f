use mathlib.Core.Path.{refl, ◌∙◌}
use native.Mathlib.Omega.{arith}
use Rattle.bench_record.proofs.Parts.{part_of}
use Rattle.bench_replay.proofs.calls.number_of.Goals as goal

pub returns : goal.returns
returns c =
    let a = c.args in
    c.word_of.ensures ∙ part_of 8 1 4 a.call.now refl (omega arith)
