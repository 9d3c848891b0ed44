use Rattle.std.proofs.Common.{◌+◌, ◌*◌}
use Rattle.lint_messages.proofs.sizes.+references.Given as goal

-- a child is looked into one level less deep than the set in which it stands
abbrev pub decreases-references_of_child : goal.decreases-references_of_child
decreases-references_of_child g l = 3 * l.levels

abbrev pub decreases-references_of_children : goal.decreases-references_of_children
decreases-references_of_children g l = 3 * l.levels + 1

abbrev pub decreases-references_of_set : goal.decreases-references_of_set
decreases-references_of_set g l = 3 * l.levels + 2
