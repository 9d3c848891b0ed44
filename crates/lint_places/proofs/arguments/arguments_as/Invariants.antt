use Rattle.std.proofs.Common.{◌≡◌, map}
use Rattle.lint_places.specs.proofs_only.Together.{arguments_as}
use Rattle.lint_places.proofs.Arguing.{judged_from}
use Rattle.lint_places.proofs.arguments.arguments_as.Given as goal

-- what those so far are judged as stands before what the others are
abbrev pub invariant-loop-value : goal.invariant-loop-value
invariant-loop-value g l = judged_from g.J.JsonTree.content l.values l.all l.value-index ≡ arguments_as (map g.J.JsonTree.content l.values)
