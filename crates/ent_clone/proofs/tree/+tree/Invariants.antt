use Rattle.std.proofs.Common.{◌≡◌, ◌++◌, drop}
use Rattle.ent_clone.proofs.tree.+tree.Given as goal

abbrev pub invariant-copied_children-loop-child : goal.invariant-copied_children-loop-child
invariant-copied_children-loop-child l = l.copies ++ drop l.child-index l.children ≡ l.children
