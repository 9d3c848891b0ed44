use Rattle.std.proofs.Common.{◌+◌, ◌*◌, take}
use Rattle.std.specs.List.{All}
use Rattle.serde_json.specs.Data.{depth}
use Rattle.lint_declared.proofs.Walks.{FirstAreDeclared, RowIsDeclared}
use Rattle.lint_declared.proofs.walk.+walk.Given as goal

abbrev pub decreases-at_key : goal.decreases-at_key
decreases-at_key g l = 5 * depth (g.J.JsonTree.content l.json.now) + 2

abbrev pub decreases-at_keys : goal.decreases-at_keys
decreases-at_keys g l = 5 * depth (g.J.JsonTree.content l.json.now) + 3

abbrev pub decreases-at_number : goal.decreases-at_number
decreases-at_number g l = 5 * depth (g.J.JsonTree.content l.json.now) + 5

abbrev pub decreases-in_list : goal.decreases-in_list
decreases-in_list g l = 5 * depth (g.J.JsonTree.content l.json.now) + 3

abbrev pub decreases-in_part : goal.decreases-in_part
decreases-in_part g l = 5 * depth (g.J.JsonTree.content l.json.now) + 4

-- nothing was found at the keys so far
abbrev pub invariant-at_keys-loop-row : goal.invariant-at_keys-loop-row
invariant-at_keys-loop-row g l =
    All (λ r. RowIsDeclared l.attributes l.pointer l.part (g.J.JsonTree.content l.json) (r.0.now, r.1)) (take l.row-index l.row-items)

-- nothing was found at the members so far
abbrev pub invariant-in_list-loop-number : goal.invariant-in_list-loop-number
invariant-in_list-loop-number g l =
    FirstAreDeclared g.J.JsonTree.content l.attributes l.pointer l.item l.members l.number
