use Rattle.std.proofs.Common.{◌≡◌}
use Rattle.ent_policy.specs.Limits.{length_fault}
use Rattle.lint_places.specs.Told.{argument_told}
use Rattle.lint_places.specs.Views.{scope_of}
use Rattle.lint_places.proofs.ArgumentLemmas.{first_from}
use Rattle.lint_places.proofs.arguments.each_judged.Given as goal

abbrev pub invariant-loop-value : goal.invariant-loop-value
invariant-loop-value g l =
    first_from g.J.JsonTree.content (argument_told (scope_of g.J.JsonTree.content l.scope)) l.values l.first l.value-index
    ≡ first_from g.J.JsonTree.content (argument_told (scope_of g.J.JsonTree.content l.scope)) l.values (length_fault l.values) 0
