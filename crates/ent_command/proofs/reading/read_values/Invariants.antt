use Rattle.std.proofs.Common.{◌≡◌, drop, map}
use Rattle.serde_json.specs.View.{items_of}
use Rattle.ent_command.specs.Edits.{values_in}
use Rattle.ent_command.proofs.ReadLemmas.{with_front}
use Rattle.ent_command.proofs.reading.read_values.Given as goal

abbrev pub invariant-loop-value : goal.invariant-loop-value
invariant-loop-value g l = with_front l.items (values_in l.datatype (items_of (map g.J.JsonTree.content (drop l.value-index l.values)))) ≡ values_in l.datatype (items_of (map g.J.JsonTree.content l.values))
