use Rattle.std.proofs.Common.{◌≡◌, ◌≤◌, map, take}
use Rattle.serde_json.specs.View.{view}
use Rattle.script_compare.specs.Gains.{count_of}
use Rattle.script_compare.proofs.gains.count_of.Given as goal

-- those of the changes so far
abbrev pub invariant-loop-change : goal.invariant-loop-change
invariant-loop-change l = record {
  so_far : l.count ≡ count_of l.way (map view (take l.change-index l.changes));
  within : l.count ≤ l.change-index;
}
