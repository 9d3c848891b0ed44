use Rattle.std.proofs.Common.{◌≡◌, map}
use Rattle.serde_json.specs.View.{items_of}
use Rattle.lint_declared.specs.Compared.{members_from}
use Rattle.lint_declared.specs.proofs_only.Placed.{places_of}
use Rattle.lint_declared.proofs.Gathered.{put_from}
use Rattle.lint_declared.proofs.compared.members.Given as goal

-- what is left is put behind what was
abbrev pub invariant-loop-number : goal.invariant-loop-number
invariant-loop-number g l =
    let content = g.J.JsonTree.content in
    members_from l.around 0 (items_of (map content l.list)) ≡ put_from content l.around (places_of content l.all.items) l.list l.number-counter
