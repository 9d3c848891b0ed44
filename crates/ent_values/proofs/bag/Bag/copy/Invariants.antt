use Rattle.std.proofs.Common.{◌≡◌, ◌++◌, drop}
use Rattle.ent_values.proofs.bag.Bag.copy.Given as goal

-- what is copied and what is left make up the bag's values
abbrev pub invariant-loop-value : goal.invariant-loop-value
invariant-loop-value l = (l.copy.datatype ≡ l.self.datatype) × (l.copy.values ++ drop l.value-index l.self.values ≡ l.self.values)
