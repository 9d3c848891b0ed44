use Rattle.std.proofs.Common.{◌≡◌, drop, map}
use Rattle.serde_json.specs.View.{items_of}
use Rattle.lint_declared.specs.Lines.{bad_value_from}
use Rattle.lint_declared.proofs.lines.bad_value.Given as goal

-- none of the values so far is bad
abbrev pub invariant-loop-number : goal.invariant-loop-number
invariant-loop-number g l =
    let content = g.J.JsonTree.content in
    bad_value_from l.attributes l.set 0 (items_of (map content l.values))
    ≡ bad_value_from l.attributes l.set l.number (items_of (map content (drop l.number l.values)))
