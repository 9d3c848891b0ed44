use Rattle.std.proofs.Common.{◌≡◌, drop, map}
use Rattle.serde_json.specs.View.{items_of}
use Rattle.ent_command.specs.Wanted.{are_decisions}
use Rattle.ent_command.proofs.wanted.are_decisions.Given as goal

abbrev pub invariant-loop-value : goal.invariant-loop-value
invariant-loop-value g l =
    are_decisions (items_of (map g.J.JsonTree.content (drop l.value-index l.values))) ≡ are_decisions (items_of (map g.J.JsonTree.content l.values))
