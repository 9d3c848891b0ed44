use Rattle.std.proofs.Common.{◌≡◌, map, take}
use Rattle.lint_places.specs.Led.{referring}
use Rattle.lint_places.proofs.led.rows_of.Given as goal

abbrev pub invariant-loop-definition : goal.invariant-loop-definition
invariant-loop-definition l = map (λ row. row.items) l.rows.items ≡ map (referring l.definitions) (take l.definition-index l.definitions)
