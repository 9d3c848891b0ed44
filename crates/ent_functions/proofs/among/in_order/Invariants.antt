use Rattle.std.proofs.Common.{take}
use Rattle.ent_functions.specs.proofs_only.Found.{HasAll}
use Rattle.ent_functions.proofs.among.in_order.Given as goal

abbrev pub invariant-loop-value : goal.invariant-loop-value
invariant-loop-value l = HasAll (take l.value-index l.values) l.ordered
