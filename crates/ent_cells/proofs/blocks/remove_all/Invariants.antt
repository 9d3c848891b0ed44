use Rattle.std.proofs.Common.{◌≡◌, ℕ, take}
use Rattle.slab.specs.Slab.{get}
use Rattle.ent_cells.specs.Shape.{left_of}
use Rattle.ent_cells.proofs.blocks.remove_all.Given as goal

abbrev pub invariant-loop-key : goal.invariant-loop-key
invariant-loop-key g l = record {
  cells : (q : ℕ) → get l.store.cells q ≡ left_of l.initial.store.cells (take l.key-index l.keys) q;
  evaluator : l.store.evaluator ≡ l.initial.store.evaluator;
}
