use Rattle.std.proofs.Common.{◌≡◌, ◌++◌, map, take}
use Rattle.std.specs.List.{flat_map}
use Rattle.script_coverage.specs.Told.{rule_text}
use Rattle.script_coverage.specs.proofs_only.Names.{name_view}
use Rattle.script_coverage.proofs.telling.push_rule_lines.Given as goal

-- the lines of the rules so far
abbrev pub invariant-loop-name : goal.invariant-loop-name
invariant-loop-name l = l.out.items ≡ l.fn.out.items ++ flat_map rule_text (map name_view (take l.name-index l.rules))
