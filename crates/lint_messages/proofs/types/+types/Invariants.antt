use Rattle.std.proofs.Common.{◌+◌, ◌*◌}
use Rattle.lint_messages.proofs.types.+types.Given as goal

-- a variable or an argument is looked into one level less deep than the expression
abbrev pub decreases-type_of : goal.decreases-type_of
decreases-type_of g l = 3 * l.levels

abbrev pub decreases-variable_type : goal.decreases-variable_type
decreases-variable_type g l = 3 * l.levels + 1

abbrev pub decreases-argument_types : goal.decreases-argument_types
decreases-argument_types g l = 3 * l.levels + 1

abbrev pub decreases-apply_type : goal.decreases-apply_type
decreases-apply_type g l = 3 * l.levels + 2
