use Rattle.std.proofs.Common.{◌≡◌, map, take}
use Rattle.ent_polform.specs.Form.{definition_of}
use Rattle.lint_places.specs.Led.{readable}
use Rattle.lint_places.proofs.led.read_all.Given as goal

abbrev pub invariant-loop-json : goal.invariant-loop-json
invariant-loop-json g l = l.all.items ≡ map (λ d. readable (definition_of d)) (map g.J.JsonTree.content (take l.json-index l.definitions))
