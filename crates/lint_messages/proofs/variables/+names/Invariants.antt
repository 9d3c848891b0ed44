use Rattle.std.proofs.Common.{◌+◌, ◌*◌}
use Rattle.lint_messages.proofs.variables.+names.Given as goal

-- arguments are looked into one level less deep than what they are arguments of
abbrev pub decreases-note_names : goal.decreases-note_names
decreases-note_names g l = 2 * l.levels

abbrev pub decreases-note_all_names : goal.decreases-note_all_names
decreases-note_all_names g l = 2 * l.levels + 1
