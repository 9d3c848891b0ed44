use Rattle.std.proofs.Common.{◌≡◌, ◌++◌, map}
use Rattle.serde_json.specs.View.{members_view, view}
use Rattle.script_compare.specs.Changes.{decided, reasoned}
use Rattle.script_compare.proofs.changes.changed.Given as goal

-- the changes so far, and those of the other cells
abbrev pub invariant-loop-request : goal.invariant-loop-request
invariant-loop-request l = record {
  decisions : map view l.decisions.items ++ decided (members_view l.request-iterator) (view l.after) ≡ map view l.fn.decisions.items ++ decided (members_view l.before.entries) (view l.after);
  reasons : map view l.reasons.items ++ reasoned (members_view l.request-iterator) (view l.after) ≡ map view l.fn.reasons.items ++ reasoned (members_view l.before.entries) (view l.after);
}
