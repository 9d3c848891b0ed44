-- Targets, step by step: words of the code's own contracts.
use Rattle.ent_walk.specs.declared.target.Targeted.{Targeted}
use Rattle.ent_walk.specs.declared.target.Targeted.TheVariants as is

-- the first of two, if it is Indeterminate, and else the second
abbrev pub unless_indeterminate : Targeted → Targeted → Targeted
unless_indeterminate (is.Indeterminate status) second = is.Indeterminate status
unless_indeterminate is.Match second = second
unless_indeterminate is.NoMatch second = second
