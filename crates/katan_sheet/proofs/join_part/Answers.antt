use mathlib.Core.Path.{sym}
use lib.Bits.{or_block}
use borrow.Author.Rules.{rules}
use Rattle.katan_sheet.proofs.join_part.Goals as goal

pub returns : goal.returns
returns c =
    let a = c.args in
    sym (or_block 64 a.a.high a.b.high a.a.low a.b.low (search rules) (search rules))
