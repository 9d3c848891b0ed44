use Rattle.std.proofs.Common.{◌≡◌, map, take}
use Rattle.serde_json.specs.View.{view}
use Rattle.script_coverage.specs.Told.{rule_data}
use Rattle.script_coverage.specs.proofs_only.Names.{name_view}
use Rattle.script_coverage.proofs.telling.rule_values.Given as goal

-- those of the rules so far
abbrev pub invariant-loop-name : goal.invariant-loop-name
invariant-loop-name l = map view l.values.items ≡ map rule_data (map name_view (take l.name-index l.rules))
