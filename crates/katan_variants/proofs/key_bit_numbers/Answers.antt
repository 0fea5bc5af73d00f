use Rattle.katan.proofs.Tables.{numbers_rule}
use Rattle.katan_variants.proofs.key_bit_numbers.Goals as goal

pub returns : goal.returns
returns c = numbers_rule 0 254
