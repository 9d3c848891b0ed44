use Rattle.std.proofs.Common.{◌≡◌, ◌++◌, List, drop, length}
use Rattle.std.specs.List.{flat_map}
use Rattle.ent_policy.specs.declared.document.Rule.{Rule}
use Rattle.ent_policy.specs.declared.expression.VariableDefinition.{VariableDefinition}
use Rattle.ent_policy.specs.declared.key.DocKey.{DocKey}
use Rattle.memo_plan.specs.Heard.{Came, came_of_rule}
use Rattle.memo_plan.specs.Plan.{Scene}
use Rattle.memo_replay.specs.proofs_only.Heard.{HearsNothing}
use Rattle.memo_replay.specs.proofs_only.Stands.{Stands}
use Rattle.memo_replay.proofs.over.Over.pass_rules.Given as goal

abbrev pub invariant-loop : goal.invariant-loop
invariant-loop g l =
    ((w : Scene) (definitions : List VariableDefinition) (here : List DocKey) (rules : List Rule) → length rules ≡ l.count → (cs : List Came)
    → Stands l.self l.fn.state (flat_map (came_of_rule w.looks w.request definitions here) rules ++ cs)
    → Stands l.self l.state (flat_map (came_of_rule w.looks w.request definitions here) (drop l.counter rules) ++ cs))
    × HearsNothing l.fn.state l.state
