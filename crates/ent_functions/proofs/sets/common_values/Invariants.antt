use Rattle.std.proofs.Common.{take}
use Rattle.std.specs.Prelude.{filter}
use Rattle.ent_functions.specs.Sets.{is_among}
use Rattle.ent_functions.specs.proofs_only.Found.{AreFound, IsAmong}
use Rattle.ent_functions.proofs.sets.common_values.Given as goal

abbrev pub invariant-loop-value : goal.invariant-loop-value
invariant-loop-value l = record {
  among : IsAmong l.second l.among;
  found : AreFound (filter (λ value. is_among value l.second) (take l.value-index l.first)) l.found l.seen;
}
