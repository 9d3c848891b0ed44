-- Matches that no value meets (sections 5.6 to 5.9).
use Rattle.std.specs.Prelude.{codes, map}
use Rattle.lint_meaning.specs.Bounds.{is_unmet_from, limit_of}
use Rattle.lint_meaning.specs.Places.{Told, numbered, told_if}
use Rattle.lint_meaning.specs.declared.warning.Meaning.TheVariants as meaning
use Rattle.ent_policy.specs.declared.document.AllOf.{AllOf}
use Rattle.ent_policy.specs.declared.document.AnyOf.{AnyOf}
use Rattle.ent_policy.specs.declared.document.Match.{Match}
use Rattle.ent_policy.specs.declared.document.Target.{Target}

-- of a match
abbrev pub match_told : Match → Told
match_told m pointer = told_if (is_unmet_from (limit_of m.function) m.literal) meaning.Least pointer

-- of an AllOf
abbrev pub all_of_told : AllOf → Told
all_of_told a pointer = numbered (codes "Match") 0 (map match_told a.matches) pointer

-- of an AnyOf
abbrev pub any_of_told : AnyOf → Told
any_of_told a pointer = numbered (codes "AllOf") 0 (map all_of_told a.all_of) pointer

-- of the target of a rule, a policy or a set
abbrev pub target_told : Target → Told
target_told t pointer = numbered (codes "Target/AnyOf") 0 (map any_of_told t.any_of) pointer
