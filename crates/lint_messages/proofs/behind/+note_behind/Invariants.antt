use Rattle.std.proofs.Common.{◌+◌, ◌*◌}
use Rattle.lint_messages.proofs.behind.+note_behind.Given as goal

-- a child of a set is looked into one level less deep than the set
abbrev pub decreases-note_behind : goal.decreases-note_behind
decreases-note_behind g l = 2 * l.levels

abbrev pub decreases-note_in_children : goal.decreases-note_in_children
decreases-note_in_children g l = 2 * l.levels + 1
