use Rattle.std.proofs.Common.{◌≡◌, ◌++◌, drop}
use Rattle.std.specs.List.{flat_map}
use Rattle.std.specs.Option.{option_to_list}
use Rattle.lint_declared.specs.Compared.{at}
use Rattle.lint_declared.specs.proofs_only.Placed.{places_of}
use Rattle.lint_declared.proofs.compared.put_at_each.Given as goal

-- what is left is put behind what was
abbrev pub invariant-loop-place : goal.invariant-loop-place
invariant-loop-place g l =
    let content = g.J.JsonTree.content in
    places_of content l.all.items ++ flat_map (λ p. option_to_list (at l.key p)) (places_of content (drop l.place-index l.places))
    ≡ places_of content l.fn.all.items ++ flat_map (λ p. option_to_list (at l.key p)) (places_of content l.places)
