use Rattle.std.proofs.Common.{take}
use Rattle.lint_places.specs.proofs_only.Suspects.{HasIds}
use Rattle.lint_places.proofs.suspects.ids_of.Given as goal

abbrev pub invariant-loop-definition : goal.invariant-loop-definition
invariant-loop-definition l = HasIds (take l.definition-index l.definitions) l.ids
