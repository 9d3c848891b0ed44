use Rattle.std.proofs.Common.{◌≡◌, drop, map}
use Rattle.serde_json.specs.View.{view}
use Rattle.script_compare.specs.Shown.{entries_text}
use Rattle.script_compare.proofs.column.push_entries.Given as goal

-- the rules so far, and the others are left
abbrev pub invariant-loop-entry : goal.invariant-loop-entry
invariant-loop-entry l = entries_text l.texts.items (map view (drop l.entry-index l.entries)) ≡ entries_text l.fn.texts.items (map view l.entries)
