use Rattle.katan.proofs.Bits.{one_shifted}
use Rattle.katan_smudged.proofs.Shifts.{shifted_word}
use Rattle.katan_smudged.proofs.words.shift_in.Goals as goal

pub returns : goal.returns
returns c = let a = c.args in rw (one_shifted a.w c.requires) (shifted_word a.l _ a.w c.requires)
