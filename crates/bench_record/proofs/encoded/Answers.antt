use Rattle.std.proofs.Common.{rules}
use Rattle.bench_record.proofs.Codec.{whole}
use Rattle.bench_record.proofs.encoded.Goals as goal

pub returns : goal.returns
returns c =
    rw (c.put_word-6.ensures, c.put_word-5.ensures, c.put_word-4.ensures, c.put_word-3.ensures, c.put_word-2.ensures, c.put_word.ensures, c.from.ensures, c.from-2.ensures) (whole c.args.fields (search rules))
