use Rattle.std.proofs.Common.{◌≡◌, ◌++◌, drop, map}
use Rattle.ent_walk.specs.Given.{assignment_of}
use Rattle.ent_walk.proofs.assignments.add_values.Given as goal

abbrev pub invariant-loop-value : goal.invariant-loop-value
invariant-loop-value l = l.assignments ++ map (assignment_of l.expression) (drop l.value-index l.values) ≡ l.initial.assignments ++ map (assignment_of l.expression) l.values
