use Rattle.std.proofs.Common.{◌+◌, ◌*◌}
use Rattle.lint_messages.proofs.definitions.+fault_in.Given as goal

-- arguments are looked into one level less deep than what they are arguments of
abbrev pub decreases-fault_in : goal.decreases-fault_in
decreases-fault_in g l = 2 * l.levels

abbrev pub decreases-fault_in_arguments : goal.decreases-fault_in_arguments
decreases-fault_in_arguments g l = 2 * l.levels + 1
