use Rattle.std.proofs.Common.{◌≡◌, ◌-◌, map}
use Rattle.ent_polform.specs.Form.{definition_of}
use Rattle.lint_places.specs.Led.{further_by, led, readable}
use Rattle.lint_places.proofs.led.led.Given as goal

abbrev pub invariant-loop : goal.invariant-loop
invariant-loop g l =
    further_by (l.end - l.counter) (map (λ d. readable (definition_of d)) (map g.J.JsonTree.content l.definitions)) l.all.items ≡ led (map g.J.JsonTree.content l.definitions) l.number
