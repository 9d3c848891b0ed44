use Rattle.std.proofs.Common.{◌≡◌, drop, map}
use Rattle.serde_json.specs.View.{members_view, view}
use Rattle.script_compare.specs.Changes.{counted}
use Rattle.script_compare.proofs.report.count.Given as goal

-- the changes so far are counted, and the others are left
abbrev pub invariant-loop-change : goal.invariant-loop-change
invariant-loop-change l =
    counted (map view (drop l.change-index l.changes)) (members_view l.counts.entries) ≡ counted (map view l.changes) (members_view l.fn.counts.entries)
