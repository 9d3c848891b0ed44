use Rattle.std.proofs.Common.{◌≡◌, ◌++◌, map, take}
use Rattle.serde_json.specs.View.{view}
use Rattle.script_coverage.specs.Told.{name_of}
use Rattle.script_coverage.specs.proofs_only.Names.{name_view}
use Rattle.script_coverage.proofs.rules.push_rules.Given as goal

-- the rules so far
abbrev pub invariant-loop-rule : goal.invariant-loop-rule
invariant-loop-rule l = map name_view l.rules.items ≡ map name_view l.fn.rules.items ++ map (name_of (view l.policy)) (map view (take l.rule-index l.members))
