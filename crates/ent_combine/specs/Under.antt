-- What a policy or a policy set comes to whose target is Indeterminate.
use Rattle.ent_combine.specs.declared.outcome.Outcome.{Outcome}
use Rattle.ent_combine.specs.declared.outcome.Outcome.TheVariants.{Permit, Deny, NotApplicable, Ind}
use Rattle.ent_combine.specs.declared.outcome.IndKind.TheVariants.{P, D}

-- table 7 of section 7.14: by what the children come to
abbrev pub under : Outcome → Outcome
under NotApplicable = NotApplicable
under Permit = Ind P
under Deny = Ind D
under (Ind kind) = Ind kind
