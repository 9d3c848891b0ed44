use Rattle.std.proofs.Common.{◌≡◌, ◌++◌, drop}
use Rattle.std.specs.List.{flat_map}
use Rattle.lint_declared.specs.Compared.{given}
use Rattle.lint_declared.specs.proofs_only.Placed.{places_of}
use Rattle.lint_declared.proofs.compared.put_given_each.Given as goal

-- what is left is put behind what was
abbrev pub invariant-loop-argument : goal.invariant-loop-argument
invariant-loop-argument g l =
    let content = g.J.JsonTree.content in
    places_of content l.all.items ++ flat_map (given l.key) (places_of content (drop l.argument-index l.arguments))
    ≡ places_of content l.fn.all.items ++ flat_map (given l.key) (places_of content l.arguments)
