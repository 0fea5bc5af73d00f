use Rattle.lanes.specs.Many.{block_key}
use Rattle.lanes.proofs.KeyLanes.{key_lanes}
use Rattle.lanes.proofs.keys.Keys.key_words.Goals as goal

pub returns : goal.returns
returns c =
    let low = c.low_rows in
    key_lanes (block_key c.args.self.now.bytes.now) c.args.self.now.count low.result _ c.args.high.now c.joined.result low.ensures c.transpose-low.ensures c.requires c.joined.ensures
