use Rattle.std.proofs.Common.{List, ◌++◌, take}
use Rattle.ent_values.specs.declared.value.Value.{Value}
use Rattle.ent_functions.specs.proofs_only.Found.{AreFound}
use Rattle.ent_functions.proofs.sets.add_all_new.Given as goal

abbrev pub invariant-loop-value : goal.invariant-loop-value
invariant-loop-value l = (before : List Value) → AreFound before l.initial.found l.initial.seen → AreFound (before ++ take l.value-index l.values) l.found l.seen
