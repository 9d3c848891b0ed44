use Rattle.std.proofs.Common.{◌≡◌, ◌||◌, drop}
use Rattle.std.specs.List.{list_any}
use Rattle.json.specs.Run.{is_stop}
use Rattle.ent_json.proofs.bytes.is_plain.Given as goal

abbrev pub invariant-loop-byte : goal.invariant-loop-byte
invariant-loop-byte l = (l.odd || list_any is_stop (drop l.byte-index l.text)) ≡ list_any is_stop l.text
