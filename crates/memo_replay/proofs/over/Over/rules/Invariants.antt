use Rattle.std.specs.Prelude.{List, ◌++◌}
use Rattle.std.specs.List.{flat_map}
use Rattle.ent_policy.specs.declared.expression.VariableDefinition.{VariableDefinition}
use Rattle.ent_trace.specs.proofs_only.Path.{keys_of}
use Rattle.ent_walk.specs.Rule.{rule_part}
use Rattle.memo_plan.specs.Heard.{Came, came_of_rule}
use Rattle.memo_replay.specs.proofs_only.Stands.{Stands, looks_in, request_in}
use Rattle.memo_replay.proofs.Ruling.{Proceeds}
use Rattle.memo_replay.proofs.over.Over.rules.Given as goal

abbrev pub invariant-loop-place : goal.invariant-loop-place
invariant-loop-place g l =
    (definitions : List VariableDefinition) (cs : List Came)
    → Stands l.self l.initial.state (flat_map (came_of_rule (looks_in g.L.LookUps.looks l.self) (request_in l.self) definitions (keys_of l.path)) l.rules ++ cs)
    → Proceeds l.self l.algorithm (rule_part (looks_in g.L.LookUps.looks l.self) (request_in l.self) definitions (keys_of l.path))
    (came_of_rule (looks_in g.L.LookUps.looks l.self) (request_in l.self) definitions (keys_of l.path)) l.rules l.place l.initial.state l.state l.gathering cs
