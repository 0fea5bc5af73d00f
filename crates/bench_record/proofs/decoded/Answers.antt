use Rattle.std.proofs.Common.{ℕ, ◌<◌, ◌^◌}
use Rattle.bench_record.specs.Fields.{part}
use Rattle.bench_record.proofs.Parts.{part_lt}
use Rattle.bench_record.proofs.decoded.Goals as goal

pub overflow_cast-result : goal.overflow_cast-result
overflow_cast-result c =
    let known = c.type_inv.sent in
    let small : (a : ℕ) → part c.args.sent.now a 4 < 2 ^ 32 = λ a. part_lt c.args.sent.now (λ j. (known j).fits) a 4 in
    record { fits = rw c.word_in.ensures (search small) }
