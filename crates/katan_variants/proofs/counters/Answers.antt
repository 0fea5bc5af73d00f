use Rattle.katan.proofs.Tables.{counters_rule}
use Rattle.katan_variants.proofs.counters.Goals as goal

pub returns : goal.returns
returns c = counters_rule 0 254
