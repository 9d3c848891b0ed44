use Rattle.std.proofs.Common.{ℕ, List, ap, sym, ◌∙◌, slice_index_or}
use Rattle.std.proofs.lemmas.List.{take_more}
use Rattle.ent_cells.specs.Shape.{left_of}
use Rattle.ent_cells.proofs.Shapes.{left_more}
use Rattle.ent_cells.proofs.blocks.remove_all.Goals as goal

pub loop-key-preserved : goal.loop-key-preserved
loop-key-preserved g c =
    record {
      cells = λ q.
          left_more c.args.store.now.cells c.loop-key.store.cells c.remove.new.self.cells _ (slice_index_or c.args.keys.now c.loop-key.key-index 0) c.loop-key.invariant.cells c.remove.ensures.cells q
          ∙ ap (λ (ks : List ℕ). left_of c.args.store.now.cells ks q) (sym (take_more c.args.keys.now c.loop-key.key-index 0 c.loop-key-test.true));
      evaluator = c.remove.ensures.evaluator ∙ c.loop-key.invariant.evaluator;
    }
