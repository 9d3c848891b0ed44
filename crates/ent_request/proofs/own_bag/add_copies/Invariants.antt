use Rattle.std.proofs.Common.{◌≡◌, ◌++◌, drop}
use Rattle.ent_request.proofs.own_bag.add_copies.Given as goal

abbrev pub invariant-loop-value : goal.invariant-loop-value
invariant-loop-value l = record {
  datatype : l.bag.datatype ≡ l.initial.bag.datatype;
  values : l.bag.values ++ drop l.value-index l.values ≡ l.initial.bag.values ++ l.values;
}
