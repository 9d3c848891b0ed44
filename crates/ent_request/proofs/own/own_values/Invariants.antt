use Rattle.ent_request.specs.proofs_only.Sought.{designator_of, values_of}
use Rattle.ent_request.proofs.Apart.{IsSoFar}
use Rattle.ent_request.proofs.own.own_values.Given as goal

abbrev pub invariant-loop-category : goal.invariant-loop-category
invariant-loop-category l = IsSoFar l.sought.datatype (values_of (designator_of l.sought)) l.category-items l.category-index l.so_far
