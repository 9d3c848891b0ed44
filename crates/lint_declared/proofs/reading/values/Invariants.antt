use Rattle.std.proofs.Common.{◌≡◌, map}
use Rattle.serde_json.specs.View.{items_of}
use Rattle.lint_declared.specs.Attributes.{values_from}
use Rattle.lint_declared.proofs.Readings.{values_read}
use Rattle.lint_declared.proofs.reading.values.Given as goal

-- what is left is read behind those that were read
abbrev pub invariant-loop-number : goal.invariant-loop-number
invariant-loop-number g l =
    values_from l.datatype 0 (items_of (map g.J.JsonTree.content l.members)) ≡ values_read g.J.JsonTree.content l.datatype l.all l.members l.number
