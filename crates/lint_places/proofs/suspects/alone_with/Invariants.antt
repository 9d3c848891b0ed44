use Rattle.std.proofs.Common.{◌≡◌, map, take}
use Rattle.lint_places.specs.Places.{is_fault}
use Rattle.lint_places.specs.proofs_only.Suspects.{lone_told}
use Rattle.lint_places.proofs.suspects.alone_with.Given as goal

abbrev pub invariant-loop-json : goal.invariant-loop-json
invariant-loop-json g l = l.flags.items ≡ map (λ d. is_fault l.fault (lone_told d)) (map g.J.JsonTree.content (take l.json-index l.definitions))
