use Rattle.std.proofs.Common.{◌≡◌, ℕ, take}
use Rattle.slab.specs.Slab.{get}
use Rattle.ent_cells.specs.proofs_only.Entries.{settled}
use Rattle.ent_cells.specs.proofs_only.Phases.{changed_at}
use Rattle.ent_cells.proofs.phases.commit_all.Given as goal

abbrev pub invariant-loop-key : goal.invariant-loop-key
invariant-loop-key g l = record {
  cells : (c : ℕ) → get l.store.cells c ≡ changed_at settled (take l.key-index l.keys) c (get l.initial.store.cells c);
  evaluator : l.store.evaluator ≡ l.initial.store.evaluator;
}
