use Rattle.std.proofs.Common.{◌≡◌, take}
use Rattle.ent_cells.specs.proofs_only.Logging.{olds_in}
use Rattle.ent_cells.proofs.phases.old_answers.Given as goal

abbrev pub invariant-loop-key : goal.invariant-loop-key
invariant-loop-key g l = l.olds.items ≡ olds_in l.store.cells (take l.key-index l.keys)
