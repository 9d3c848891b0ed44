use Rattle.std.proofs.Common.{◌≡◌, ◌++◌, take}
use Rattle.ent_functions.proofs.bags.push_all.Given as goal

abbrev pub invariant-loop-value : goal.invariant-loop-value
invariant-loop-value l = l.all ≡ l.initial.all ++ take l.value-index l.values
