use Rattle.std.proofs.Common.{◌≡◌, drop, is_some, map}
use Rattle.serde_json.specs.View.{items_of}
use Rattle.ent_dump.specs.Reply.{lines_in}
use Rattle.ent_dump.proofs.told.are_lines.Given as goal

abbrev pub invariant-loop-value : goal.invariant-loop-value
invariant-loop-value g l =
    is_some (lines_in (items_of (map g.J.JsonTree.content (drop l.value-index l.values)))) ≡ is_some (lines_in (items_of (map g.J.JsonTree.content l.values)))
