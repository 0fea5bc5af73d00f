use Rattle.bench_replay.proofs.Writing.{refused_fields}
use borrow.Author.Rules.{rules}
use Rattle.bench_replay.proofs.answers.refused_fields.Goals as goal

pub returns : goal.returns
returns c = search (rules, refused_fields)
