use Rattle.std.proofs.Common.{◌≡◌, take}
use Rattle.std.specs.Prelude.{fold}
use Rattle.std.specs.List.{flat_map}
use Rattle.memo_bags.specs.proofs_only.Ready.{value_writes}
use Rattle.memo_bags.proofs.bags.hash_values.Given as goal

abbrev pub invariant-loop-value : goal.invariant-loop-value
invariant-loop-value g l = l.state ≡ fold (g.H.Hasher.write) l.initial.state (flat_map value_writes (take l.value-index l.values))
