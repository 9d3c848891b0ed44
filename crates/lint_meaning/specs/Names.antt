-- The variables that the expressions of a policy name (section 5.24).
use Rattle.std.specs.Prelude.{ℕ, List, ◌++◌}
use Rattle.std.specs.List.{flat_map}
use Rattle.ent_policy.specs.Variables.{used, variables}
use Rattle.ent_policy.specs.declared.document.Policy.{Policy}
use Rattle.ent_policy.specs.declared.expression.VariableDefinition.{VariableDefinition}

-- the variables that a definition names
abbrev pub definition_variables : VariableDefinition → List (List ℕ)
definition_variables d = variables d.expression

-- the variables that the rules, the obligations, the advice and the definitions of a policy name
abbrev pub named : Policy → List (List ℕ)
named p = used p ++ flat_map definition_variables p.variables
