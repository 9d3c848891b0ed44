-- What a rule comes to (sections 7.9 and 7.11).
use Rattle.std.specs.Prelude.{List, [], ◌∷◌, Option, Some, None, true, false, length}
use Rattle.ent_values.specs.declared.value.Value.TheVariants.{Boolean}
use Rattle.ent_functions.specs.declared.arg.Arg.TheVariants.{One}
use Rattle.ent_combine.specs.declared.outcome.Outcome.{Outcome}
use Rattle.ent_combine.specs.declared.outcome.Outcome.TheVariants as outcome
use Rattle.ent_policy.specs.declared.document.Effect.{Effect}
use Rattle.ent_policy.specs.declared.document.Effect.TheVariants.{Permit, Deny}
use Rattle.ent_policy.specs.declared.document.Rule.{Rule}
use Rattle.ent_policy.specs.declared.expression.Expression.{Expression}
use Rattle.ent_policy.specs.declared.expression.VariableDefinition.{VariableDefinition}
use Rattle.ent_policy.specs.declared.key.DocKey.{DocKey}
use Rattle.ent_request.specs.declared.answer.Answer.{Answer}
use Rattle.ent_request.specs.declared.answer.Status.TheVariants.{Okay, ProcessingError}
use Rattle.ent_request.specs.declared.cause.What.TheVariants.{Unfit}
use Rattle.ent_walk.specs.declared.evaluated.Evaluated.{Evaluated}
use Rattle.ent_walk.specs.declared.evaluated.Evaluated.TheVariants as evaluated
use Rattle.ent_walk.specs.declared.evaluated.Evaluated.TheVariants.{Known}
use Rattle.ent_walk.specs.declared.evaluated.Truth.{Truth}
use Rattle.ent_walk.specs.declared.evaluated.Truth.TheVariants as truth
use Rattle.ent_walk.specs.Expression.{meaning}
use Rattle.ent_request.specs.declared.request.Request.{Request}
use Rattle.ent_walk.specs.declared.target.Targeted.{Targeted}
use Rattle.ent_walk.specs.declared.target.Targeted.TheVariants.{Match, NoMatch, Indeterminate}
use Rattle.ent_walk.specs.Given.{finished, indeterminate_of}
use Rattle.ent_request.specs.Plain.{nothing}
use Rattle.ent_request.specs.Looks.{Looks}
use Rattle.ent_request.specs.Note.{Note, failing}
use Rattle.ent_request.specs.Part.{Part, and_fails, and_then, mapped, of_rule, without_look}
use Rattle.ent_walk.specs.Target.{target_part}

-- the decision of an effect
abbrev pub decision_of : Effect → Outcome
decision_of Permit = outcome.Permit
decision_of Deny = outcome.Deny

-- what the value of a condition is (section 7.9). A condition of a checked document gives one boolean
abbrev pub truth_of : Evaluated → Truth
truth_of (Known (One (Boolean true))) = truth.True
truth_of (Known (One (Boolean false))) = truth.False
truth_of (evaluated.Indeterminate status) = truth.Indeterminate status
truth_of _ = truth.Indeterminate ProcessingError

-- that a condition fails which is no boolean
abbrev pub unfit_condition : Evaluated → List Note
unfit_condition (Known (One (Boolean b))) = []
unfit_condition (evaluated.Indeterminate status) = []
unfit_condition _ = failing Unfit

-- a condition among the definitions of its policy; an absent one is True
abbrev pub condition_part : Looks → Request → List VariableDefinition → Option Expression → Part Truth
condition_part looks request definitions None = without_look truth.True
condition_part looks request definitions (Some e) =
    mapped truth_of (and_fails (meaning looks request definitions (length definitions) e) unfit_condition)

-- a rule of the policy at the end of a path, by its condition
abbrev pub decided : List DocKey → Rule → Truth → Answer
decided path rule truth.False = nothing
decided path rule (truth.Indeterminate status) = record { decision = outcome.Ind (indeterminate_of rule.effect); status = status; why = []; obligations = []; advice = [] }
decided path rule truth.True = record { decision = decision_of rule.effect; status = Okay; why = record { path = path; rule = Some rule.id } ∷ []; obligations = []; advice = [] }

-- the same, by its target first: the condition is evaluated under a match alone, and behind it what the rule gives itself
abbrev pub rule_after : (Answer → Part Answer) → Part Truth → List DocKey → Rule → Targeted → Part Answer
rule_after own condition path rule NoMatch = without_look nothing
rule_after own condition path rule (Indeterminate status) = without_look (decided path rule (truth.Indeterminate status))
rule_after own condition path rule Match = and_then (mapped (decided path rule) condition) own

-- a rule under its target, among the policy's definitions
abbrev pub rule_under : Looks → Request → List VariableDefinition → List DocKey → Rule → Targeted → Part Answer
rule_under looks request definitions path rule = rule_after (finished looks request definitions rule.given) (condition_part looks request definitions rule.condition) path rule

-- what stands in a rule of the policy at the end of a path, among the policy's definitions
abbrev pub in_rule : Looks → Request → List VariableDefinition → List DocKey → Rule → Part Answer
in_rule looks request definitions path rule =
    and_then (target_part looks request rule.target) (rule_under looks request definitions path rule)

-- a rule of the policy at the end of a path, among the policy's definitions
abbrev pub rule_part : Looks → Request → List VariableDefinition → List DocKey → Rule → Part Answer
rule_part looks request definitions path rule = of_rule rule.id (in_rule looks request definitions path rule)
