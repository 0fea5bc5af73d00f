use Rattle.std.proofs.Common.{sym, lt_of_lt_of_le, pow_mono, rules}
use borrow.Author.Tests.{lt-leb}
use Rattle.katan.proofs.Bits.{one_shifted}
use Rattle.katan_numbers.proofs.too_wide.Goals as goal

pub returns-then-n-lt-WORD_BITS : goal.returns-then-n-lt-WORD_BITS
returns-then-n-lt-WORD_BITS c = rw (one_shifted c.args.n c.if-n-lt-WORD_BITS.true)

pub returns-else-n-lt-WORD_BITS : goal.returns-else-n-lt-WORD_BITS
returns-else-n-lt-WORD_BITS c = sym (lt-leb _ _ (lt_of_lt_of_le (search rules) (pow_mono {i = 64} {j = c.args.n} c.if-n-lt-WORD_BITS.false)))
