use Rattle.std.proofs.Common.{◌≡◌, false, take}
use Rattle.std.specs.List.{list_any}
use Rattle.ent_policy.specs.proofs_only.Measure.{child_extent, whole}
use Rattle.ent_policy.specs.Variables.{has_variable_fault}
use Rattle.ent_policy.proofs.extent.+child.Given as goal

abbrev pub invariant-extent_of_children-loop-child : goal.invariant-extent_of_children-loop-child
invariant-extent_of_children-loop-child l = record {
  good : list_any has_variable_fault (take l.child-index l.children) ≡ false;
  extent : l.all ≡ whole child_extent (take l.child-index l.children);
}
