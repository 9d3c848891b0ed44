use Rattle.lint_meaning.proofs.Least.{nothing_below}
use Rattle.lint_meaning.proofs.Limits.{comparisons_ask_for_limits, no_value_meets_both, turned_limits_ask_the_same}
use Rattle.lint_meaning.proofs.bounds.no_value_meets_both.Goals as goal

pub returns : goal.returns
returns c = record { none = no_value_meets_both; least = nothing_below; comparisons = comparisons_ask_for_limits; turned = turned_limits_ask_the_same }
