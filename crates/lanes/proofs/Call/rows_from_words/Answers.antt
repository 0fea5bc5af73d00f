use borrow.Author.Rules.{rules}
use Rattle.lanes.specs.Many.{block_key}
use Rattle.lanes.proofs.Blocks.{block_rows}
use Rattle.lanes.proofs.Call.rows_from_words.Goals as goal

pub returns : goal.returns
returns c =
    let a = c.args in
    let key = c.key_words in
    let keys = c.round_words-round_keys in
    let to = c.all_rounds in
    block_rows a.self.now.direction a.self.now.variant a.self.now.n a.self.now.width (block_key a.self.now.keys.bytes.now) a.self.now.keys.count a.self.now.keys.few key.result keys.result a.words.now to.result c.transpose.result
    (search (rules, key.type_inv)) key.ensures keys.ensures to.ensures c.transpose.ensures
