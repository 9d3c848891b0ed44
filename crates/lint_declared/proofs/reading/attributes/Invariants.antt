use Rattle.std.proofs.Common.{◌≡◌, map}
use Rattle.serde_json.specs.View.{items_of}
use Rattle.lint_declared.specs.Attributes.{always, attributes_from, behind}
use Rattle.lint_declared.proofs.Readings.{read_from}
use Rattle.lint_declared.proofs.reading.attributes.Given as goal

-- what is left is read behind those that were read
abbrev pub invariant-loop-number : goal.invariant-loop-number
invariant-loop-number g l =
    behind always (attributes_from 0 (items_of (map g.J.JsonTree.content l.declarations))) ≡ read_from g.J.JsonTree.content l.all l.declarations l.number
