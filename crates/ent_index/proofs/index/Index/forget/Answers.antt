use Rattle.std.proofs.Common.{◌+◌, take}
use Rattle.ent_index.proofs.Changes.{forgets_more, pair_more}
use Rattle.ent_index.specs.Index.{is_pair_of}
use Rattle.ent_index.specs.proofs_only.Steps.{is_pair}
use Rattle.ent_index.proofs.index.Index.forget.Goals as goal

pub loop-key-preserved : goal.loop-key-preserved
loop-key-preserved c =
    let keys = c.args.keys.now in
    let i = c.loop-key.key-index in
    let key = c.key-item.result in
    forgets_more (is_pair_of (take i keys) c.args.cell) (is_pair key c.args.cell) (is_pair_of (take (i + 1) keys) c.args.cell) c.args.self.now c.loop-key.self c.take.new.self
    c.loop-key.invariant c.take.ensures (pair_more keys c.args.cell i key c.loop-key-test.true c.key-item.is)
