use Rattle.std.proofs.Common.{◌≡◌, drop, map}
use Rattle.serde_json.specs.View.{view}
use Rattle.script_compare.specs.Shown.{widest}
use Rattle.script_compare.proofs.showing.widest.Given as goal

-- the texts so far, and the others are left
abbrev pub invariant-loop-change : goal.invariant-loop-change
invariant-loop-change l = widest l.column l.widest (map view (drop l.change-index l.changes)) ≡ widest l.column l.least (map view l.changes)
