use mathlib.Core.Path.{ap, ◌∙◌}
use Rattle.katan.specs.Key.{key_number}
use Rattle.katan.proofs.KeyNumbers.{number_of_key}
use Rattle.lanes.proofs.KeyLanes.{key_part}
use Rattle.lanes.proofs.keys.Keys.block_key.Goals as goal

pub returns : goal.returns
returns c = ap key_number c.key_of.ensures ∙ number_of_key _ ∙ key_part c.args.self.now.bytes.now c.args.i
