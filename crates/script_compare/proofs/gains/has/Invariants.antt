use Rattle.std.proofs.Common.{◌≡◌, drop, map}
use Rattle.std.specs.List.{list_any}
use Rattle.serde_json.specs.View.{view}
use Rattle.script_compare.specs.Gains.{is_of}
use Rattle.script_compare.proofs.gains.has.Given as goal

-- none of the changes so far
abbrev pub invariant-loop-change : goal.invariant-loop-change
invariant-loop-change l = list_any (is_of l.way) (map view (drop l.change-index l.changes)) ≡ list_any (is_of l.way) (map view l.changes)
