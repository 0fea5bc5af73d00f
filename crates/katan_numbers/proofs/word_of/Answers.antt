use Rattle.std.proofs.Common.{arith}
use Rattle.katan.proofs.Bytes.{number_from}
use Rattle.katan_numbers.proofs.word_of.Goals as goal

pub returns : goal.returns
returns c =
    let xs = c.args.bytes.now in
    omega (arith, number_from 7 0 xs, number_from 6 1 xs, number_from 5 2 xs, number_from 4 3 xs, number_from 3 4 xs, number_from 2 5 xs, number_from 1 6 xs, number_from 0 7 xs)
