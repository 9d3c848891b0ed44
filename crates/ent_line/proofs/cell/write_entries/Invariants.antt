use Rattle.std.proofs.Common.{◌≡◌, ◌++◌, drop, map}
use Rattle.ent_json.specs.proofs_only.Text.{items_tokens_of}
use Rattle.ent_line.specs.Cells.{entry_data}
use Rattle.ent_line.proofs.cell.write_entries.Given as goal

abbrev pub invariant-loop-entry : goal.invariant-loop-entry
invariant-loop-entry l = l.out ++ items_tokens_of (map entry_data (drop l.entry-index l.entries)) ≡ l.fn.out ++ items_tokens_of (map entry_data l.entries)
