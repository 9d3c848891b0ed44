use Rattle.std.proofs.Common.{◌≡◌, ◌++◌, drop}
use Rattle.std.specs.List.{flat_map}
use Rattle.ent_request.specs.proofs_only.Sought.{designator_of, values_of}
use Rattle.ent_request.proofs.own_bag.gathered.Given as goal

abbrev pub invariant-loop-category : goal.invariant-loop-category
invariant-loop-category l = record {
  datatype : l.bag.datatype ≡ l.sought.datatype;
  values : l.bag.values ++ flat_map (values_of (designator_of l.sought)) (drop l.category-index l.category-items) ≡ flat_map (values_of (designator_of l.sought)) l.category-items;
}
