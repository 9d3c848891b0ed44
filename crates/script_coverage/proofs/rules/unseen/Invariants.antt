use Rattle.std.proofs.Common.{◌≡◌, map, take}
use Rattle.serde_json.specs.View.{members_view}
use Rattle.script_coverage.specs.Told.{unseen}
use Rattle.script_coverage.specs.proofs_only.Names.{name_view}
use Rattle.script_coverage.proofs.rules.unseen.Given as goal

-- those of the rules so far
abbrev pub invariant-loop-name : goal.invariant-loop-name
invariant-loop-name l = map name_view l.found.items ≡ unseen (members_view l.seen.entries) (map name_view (take l.name-index l.rules))
