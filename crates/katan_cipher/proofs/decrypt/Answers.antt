use Rattle.katan.specs.Machine.{decryption}
use Rattle.katan_cipher.proofs.decrypt.Goals as goal

pub returns : goal.returns
unfolding decryption
returns c = c.block_at.ensures
