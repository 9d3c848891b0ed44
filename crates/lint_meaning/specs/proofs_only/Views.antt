-- The program's bounds as those of the definitions, and sets as their children are seen.
use Rattle.lint_meaning.specs.Bounds.{Bound}
use Rattle.lint_meaning.specs.Warnings.{Seen, child_step, set_step}
use Rattle.lint_meaning.specs.declared.bounds.LentBound.{LentBound}
use Rattle.ent_policy.specs.declared.document.Child.TheFolds.{fold-PolicySet}
use Rattle.ent_policy.specs.declared.document.PolicySet.{PolicySet}

-- a bound that is lent
abbrev pub bound : LentBound → Bound
bound b = record { term = b.term.now; limit = b.limit; value = b.value.now }

-- a set
abbrev pub seen_set : PolicySet → Seen
seen_set = fold-PolicySet Seen Seen child_step set_step
