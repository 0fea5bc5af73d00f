use Rattle.std.proofs.Common.{◌/◌, ◌^◌, sym, rules}
use lib.Bits.{and_mask}
use Rattle.katan.proofs.Bits.{bit_past}
use Rattle.katan_numbers.proofs.bit_of.Goals as goal

pub returns-then-i-lt-WORD_BITS : goal.returns-then-i-lt-WORD_BITS
returns-then-i-lt-WORD_BITS c = and_mask (c.args.x / 2 ^ c.args.i) 1

pub returns-else-i-lt-WORD_BITS : goal.returns-else-i-lt-WORD_BITS
returns-else-i-lt-WORD_BITS c = sym (bit_past 64 c.args.x c.args.i (search rules) c.if-i-lt-WORD_BITS.false)
