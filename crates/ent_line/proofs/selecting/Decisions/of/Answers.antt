use Rattle.ent_combine.specs.declared.outcome.IndKind.TheVariants as kind
use Rattle.ent_combine.specs.declared.outcome.Outcome.TheVariants as outcome
use Rattle.ent_line.proofs.selecting.Decisions.of.Goals as goal

pub returns : goal.returns
returns g c outcome.Permit = c.has_decision.ensures
returns g c outcome.Deny = c.has_decision-2.ensures
returns g c outcome.NotApplicable = c.has_decision-3.ensures
returns g c (outcome.Ind kind.P) = c.has_decision-4.ensures
returns g c (outcome.Ind kind.D) = c.has_decision-5.ensures
returns g c (outcome.Ind kind.DP) = c.has_decision-6.ensures
