-- Counts as they grow.
use Rattle.std.specs.Prelude.{ℕ, ◌+◌}
use Rattle.ent_combine.specs.declared.outcome.Outcome.{Outcome}
use Rattle.ent_combine.specs.declared.outcome.Outcome.TheVariants.{Permit, Deny, NotApplicable, Ind}
use Rattle.ent_report.specs.declared.counts.Counts.{Counts}

-- one decision more
abbrev pub one_more : Counts → Outcome → Counts
one_more c Deny = record c { deny = c.deny + 1 }
one_more c (Ind kind) = record c { indeterminate = c.indeterminate + 1 }
one_more c NotApplicable = record c { not_applicable = c.not_applicable + 1 }
one_more c Permit = record c { permit = c.permit + 1 }

-- how many there are
abbrev pub total : Counts → ℕ
total c = c.deny + (c.indeterminate + (c.not_applicable + c.permit))
