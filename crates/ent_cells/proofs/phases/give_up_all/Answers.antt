use Rattle.std.proofs.Common.{ℕ, slice_index_or, ◌∙◌}
use Rattle.ent_cells.specs.proofs_only.Entries.{given_up}
use Rattle.ent_cells.proofs.Phased.{one_step, still_there}
use Rattle.ent_cells.proofs.phases.give_up_all.Goals as goal

pub give_up-requires : goal.give_up-requires
give_up-requires g c =
    let i : ℕ = c.loop-key.key-index in
    still_there given_up c.args.store.now.cells c.loop-key.store.cells c.args.keys.now i c.loop-key-test.true (c.requires.once (slice_index_or c.args.keys.now i 0)) c.loop-key.invariant.cells (c.requires.there i 0 c.loop-key-test.true)

pub loop-key-preserved : goal.loop-key-preserved
loop-key-preserved g c =
    let i : ℕ = c.loop-key.key-index in
    record {
      cells = one_step given_up c.args.store.now.cells c.loop-key.store.cells c.args.keys.now i c.loop-key-test.true (c.requires.once (slice_index_or c.args.keys.now i 0)) c.loop-key.invariant.cells c.give_up.new.self.cells (c.requires.there i 0 c.loop-key-test.true) c.give_up.ensures.cells;
      evaluator = c.give_up.ensures.evaluator ∙ c.loop-key.invariant.evaluator;
    }
