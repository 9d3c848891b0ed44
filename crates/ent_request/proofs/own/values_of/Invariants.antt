use Rattle.ent_request.specs.Own.{values_in}
use Rattle.ent_request.specs.proofs_only.Sought.{designator_of}
use Rattle.ent_request.proofs.Apart.{IsSoFar}
use Rattle.ent_request.proofs.own.values_of.Given as goal

abbrev pub invariant-loop-attribute : goal.invariant-loop-attribute
invariant-loop-attribute l = IsSoFar l.sought.datatype (values_in (designator_of l.sought)) l.attribute-items l.attribute-index l.so_far
