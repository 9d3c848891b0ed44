-- Tests rest on what they ask, and ask for attributes alone.
use Rattle.std.specs.Prelude.{List, Option}
use Rattle.ent_policy.specs.declared.document.Rule.{Rule}
use Rattle.ent_policy.specs.declared.document.Target.{Target}
use Rattle.ent_policy.specs.declared.expression.Expression.{Expression}
use Rattle.ent_policy.specs.declared.expression.VariableDefinition.{VariableDefinition}
use Rattle.ent_policy.specs.declared.key.DocKey.{DocKey}
use Rattle.ent_walk.specs.Rule.{condition_part}
use Rattle.ent_walk.specs.Target.{target_part}
use Rattle.memo_plan.specs.Heard.{condition, decides, decides_part, heard, target}
use Rattle.memo_tests.specs.Tested.{Rests}

-- targets
abbrev pub TargetsRest : Type 0
TargetsRest = (x : Target) → Rests (λ looks request. target (heard (target_part looks request x)))

-- conditions among the definitions of their policies
abbrev pub ConditionsRest : Type 0
ConditionsRest = (definitions : List VariableDefinition) (x : Option Expression) → Rests (λ looks request. condition (heard (condition_part looks request definitions x)))

-- what rules give themselves under a condition that is True
abbrev pub DecisionsRest : Type 0
DecisionsRest = (definitions : List VariableDefinition) (path : List DocKey) (rule : Rule) → Rests (λ looks request. decides (heard (decides_part looks request definitions path rule)))
