use Rattle.std.proofs.Common.{◌≡◌, ◌++◌, drop}
use Rattle.std.specs.List.{flat_map}
use Rattle.ent_request.specs.Own.{values_in}
use Rattle.ent_request.specs.proofs_only.Sought.{designator_of}
use Rattle.ent_request.proofs.own_bag.add_of.Given as goal

abbrev pub invariant-loop-attribute : goal.invariant-loop-attribute
invariant-loop-attribute l = record {
  datatype : l.bag.datatype ≡ l.initial.bag.datatype;
  values : l.bag.values ++ flat_map (values_in (designator_of l.sought)) (drop l.attribute-index l.attribute-items) ≡ l.initial.bag.values ++ flat_map (values_in (designator_of l.sought)) l.attribute-items;
}
