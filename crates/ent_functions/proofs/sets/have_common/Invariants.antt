use Rattle.std.proofs.Common.{◌≡◌, drop}
use Rattle.ent_functions.specs.Sets.{have_common}
use Rattle.ent_functions.specs.proofs_only.Found.{IsAmong}
use Rattle.ent_functions.proofs.sets.have_common.Given as goal

abbrev pub invariant-loop-value : goal.invariant-loop-value
invariant-loop-value l = record {
  among : IsAmong l.second l.among;
  left : have_common (drop l.value-index l.first) l.second ≡ have_common l.first l.second;
}
