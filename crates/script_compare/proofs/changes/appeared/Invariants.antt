use Rattle.std.proofs.Common.{◌≡◌, ◌++◌, map}
use Rattle.serde_json.specs.View.{members_view, view}
use Rattle.script_compare.specs.Changes.{appeared}
use Rattle.script_compare.proofs.changes.appeared.Given as goal

-- the changes so far, and those of the other cells
abbrev pub invariant-loop-request : goal.invariant-loop-request
invariant-loop-request l = map view l.changes.items ++ appeared (view l.before) (members_view l.request-iterator) ≡ map view l.fn.changes.items ++ appeared (view l.before) (members_view l.after.entries)
