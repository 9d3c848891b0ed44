use Rattle.std.proofs.Common.{ℕ, slice_index_or, ◌∙◌}
use Rattle.ent_cells.specs.proofs_only.Entries.{settled}
use Rattle.ent_cells.proofs.Phased.{one_step, still_there}
use Rattle.ent_cells.proofs.phases.commit_all.Goals as goal

pub commit-requires : goal.commit-requires
commit-requires g c =
    let i : ℕ = c.loop-key.key-index in
    still_there settled c.args.store.now.cells c.loop-key.store.cells c.args.keys.now i c.loop-key-test.true (c.requires.once (slice_index_or c.args.keys.now i 0)) c.loop-key.invariant.cells (c.requires.there i 0 c.loop-key-test.true)

pub loop-key-preserved : goal.loop-key-preserved
loop-key-preserved g c =
    let i : ℕ = c.loop-key.key-index in
    record {
      cells = one_step settled c.args.store.now.cells c.loop-key.store.cells c.args.keys.now i c.loop-key-test.true (c.requires.once (slice_index_or c.args.keys.now i 0)) c.loop-key.invariant.cells c.commit.new.self.cells (c.requires.there i 0 c.loop-key-test.true) c.commit.ensures.cells;
      evaluator = c.commit.ensures.evaluator ∙ c.loop-key.invariant.evaluator;
    }
