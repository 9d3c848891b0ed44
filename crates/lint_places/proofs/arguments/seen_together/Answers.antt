use Rattle.std.proofs.Common.{map, sym, ◌∙◌}
use Rattle.std.proofs.lemmas.Bool.{false≢true}
use Rattle.lint_places.specs.Views.{scope_of}
use Rattle.lint_places.specs.proofs_only.Together.{assigned_told}
use Rattle.lint_places.proofs.ArgumentLemmas.{found_is}
use Rattle.lint_places.proofs.Arguing.{not_long, seen}
use Rattle.lint_places.proofs.arguments.seen_together.Goals as goal

pub returns-then-is_later : goal.returns-then-is_later
returns-then-is_later g c =
    let content = g.J.JsonTree.content in
    let s = scope_of content c.args.scope.now in
    let told = found_is _ c.assignments_judged.result (assigned_told s c.in-Some.assignments) c.in_ok-told.told c.assignments_judged.ensures c.in_ok-told.ensures in
    seen s (map content c.args.values.now) c.in-Some.assignments c.in_ok-told.told
    (not_long content c.args.values.now c.length_fault.result c.length_fault.ensures (sym c.is_some.ensures ∙ c.if-is_some.false))
    (sym c.in-Some.is ∙ c.in_ok-assignments.ensures) (λ none. false≢true (sym c.if-is_empty.false ∙ c.is_empty.ensures.1 none))
    told (sym c.is_later.ensures ∙ c.if-is_later.true)
