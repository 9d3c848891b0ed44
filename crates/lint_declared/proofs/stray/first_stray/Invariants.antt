use Rattle.std.proofs.Common.{◌≡◌, false, take}
use Rattle.std.specs.List.{list_any}
use Rattle.lint_declared.specs.Compared.{is_stray}
use Rattle.lint_declared.specs.proofs_only.Placed.{places_of}
use Rattle.lint_declared.proofs.stray.first_stray.Given as goal

-- none of the literals so far strays
abbrev pub invariant-loop-literal : goal.invariant-loop-literal
invariant-loop-literal g l =
    let content = g.J.JsonTree.content in
    list_any (λ literal. list_any (λ designator. is_stray l.attributes designator literal) (places_of content l.designators)) (places_of content (take l.literal-index l.literals)) ≡ false
