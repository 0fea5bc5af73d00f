use Rattle.bench_replay.proofs.Writing.{at_fields, refused_read}
use borrow.Author.Rules.{rules}
use Rattle.bench_replay.proofs.answers.read_fields.Goals as goal

pub returns-in-Ok : goal.returns-in-Ok
returns-in-Ok c = search (rules, at_fields)

pub returns-in-Err : goal.returns-in-Err
returns-in-Err c = search (rules, refused_read)
