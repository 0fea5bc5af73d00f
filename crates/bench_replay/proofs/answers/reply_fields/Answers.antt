use Rattle.bench_replay.proofs.Writing.{done_fields, again_fields, refused_reply}
use borrow.Author.Rules.{rules}
use Rattle.bench_replay.proofs.answers.reply_fields.Goals as goal

pub returns-in-Ok-Done : goal.returns-in-Ok-Done
returns-in-Ok-Done c = search (rules, done_fields)

pub returns-in-Ok-Again : goal.returns-in-Ok-Again
returns-in-Ok-Again c = search (rules, again_fields)

pub returns-in-Err : goal.returns-in-Err
returns-in-Err c = search (rules, refused_reply)
