use Rattle.std.proofs.Common.{◌≡◌, ◌++◌, drop}
use Rattle.ent_finder.proofs.rows.add_all.Given as goal

-- what is in the bag and what is left make up what is to be there
abbrev pub invariant-loop-value : goal.invariant-loop-value
invariant-loop-value l = (l.bag.datatype ≡ l.fn.bag.datatype) × (l.bag.values ++ drop l.value-index l.values ≡ l.fn.bag.values ++ l.values)
