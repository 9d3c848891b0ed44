use Rattle.std.proofs.Common.{◌≡◌, drop}
use Rattle.ent_functions.specs.Sets.{is_subset}
use Rattle.ent_functions.specs.proofs_only.Found.{IsAmong}
use Rattle.ent_functions.proofs.sets.is_subset.Given as goal

abbrev pub invariant-loop-value : goal.invariant-loop-value
invariant-loop-value l = record {
  among : IsAmong l.second l.among;
  left : is_subset (drop l.value-index l.first) l.second ≡ is_subset l.first l.second;
}
