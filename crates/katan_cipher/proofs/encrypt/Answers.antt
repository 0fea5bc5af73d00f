use Rattle.katan.specs.Machine.{encryption}
use Rattle.katan_cipher.proofs.encrypt.Goals as goal

pub returns : goal.returns
unfolding encryption
returns c = c.block_at.ensures
