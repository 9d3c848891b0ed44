use Rattle.std.proofs.Common.{◌≡◌, drop, map}
use Rattle.std.specs.List.{fold}
use Rattle.serde_json.specs.View.{members_view, view}
use Rattle.script_coverage.specs.Seen.{with_entry}
use Rattle.script_coverage.proofs.seen.see_cell.Given as goal

-- those of the entries so far, and the others are left
abbrev pub invariant-loop-entry : goal.invariant-loop-entry
invariant-loop-entry l =
    fold with_entry (members_view l.seen.entries) (map view (drop l.entry-index l.entries)) ≡ fold with_entry (members_view l.fn.seen.entries) (map view l.entries)
