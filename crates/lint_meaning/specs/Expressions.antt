-- What is told of conditions, and of the expressions in them, in definitions and in assignments.
use Rattle.std.specs.Prelude.{[], ◌++◌, Option, Some, None, codes, map}
use Rattle.lint_meaning.specs.Bounds.{application_told}
use Rattle.lint_meaning.specs.Fixed.{is_fixed}
use Rattle.lint_meaning.specs.Places.{Told, at_key, numbered, told_if}
use Rattle.lint_meaning.specs.declared.warning.Meaning.TheVariants as meaning
use Rattle.ent_policy.specs.declared.expression.Expression.{Expression}
use Rattle.ent_policy.specs.declared.expression.Expression.TheOpen.{Expression-F}
use Rattle.ent_policy.specs.declared.expression.Expression.TheFolds.{fold-Expression, map-Expression}
use Rattle.ent_policy.specs.declared.expression.Expression.TheViews.{roll-Expression}

-- an expression, and what is told inside of it
pub record Seen : Type 0 where
  pub it : Expression
  pub told : Told

-- nothing
abbrev pub nothing : Told
nothing pointer = []

-- what is told of one level of an expression, with each argument already seen
abbrev pub level_told : Expression-F Seen → Told
level_told (Expression-F.Apply function arguments) pointer = application_told function (map (λ s. s.it) arguments) pointer
    ++ numbered (codes "Apply/Arguments") 0 (map (λ s. s.told) arguments) pointer
level_told _ pointer = []

-- one level of an expression, with each argument already seen
abbrev pub seen_step : Expression-F Seen → Seen
seen_step level = record { it = roll-Expression (map-Expression Seen Expression (λ s. s.it) level); told = level_told level }

abbrev pub seen : Expression → Seen
seen = fold-Expression Seen seen_step

-- what is told inside of an expression
abbrev pub inside : Expression → Told
inside e = (seen e).told

-- what is told of a condition: that it comes to the same for each request, and what is told inside of it
abbrev pub condition_told : Option Expression → Told
condition_told None pointer = []
condition_told (Some e) pointer = told_if (is_fixed e) meaning.Fixed (at_key pointer (codes "Condition")) ++ inside e (at_key pointer (codes "Condition"))
