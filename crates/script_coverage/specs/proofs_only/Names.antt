-- The names of the code without where their parts lie in memory.
use Rattle.script_coverage.specs.Told as told
use Rattle.script_coverage.specs.declared.rules.RuleName.{RuleName}

-- the name of a rule
abbrev pub name_view : RuleName → told.RuleName
name_view name = record { policy = name.policy.now; version = name.version.now; rule = name.rule.now }
