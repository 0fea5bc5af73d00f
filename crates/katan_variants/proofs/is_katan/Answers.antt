use mathlib.Core.Path.{refl}
use Rattle.katan_variants.proofs.is_katan.Goals as goal

pub returns : goal.returns
returns c = refl
