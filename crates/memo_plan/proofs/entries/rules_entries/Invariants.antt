use Rattle.std.proofs.Common.{◌≡◌, take}
use Rattle.std.specs.List.{flat_map}
use Rattle.memo_plan.specs.proofs_only.Entries.{rule_entries}
use Rattle.memo_plan.proofs.entries.rules_entries.Given as goal

abbrev pub invariant-loop-rule : goal.invariant-loop-rule
invariant-loop-rule l = l.entries ≡ flat_map (rule_entries l.within) (take l.rule-index l.rules)
