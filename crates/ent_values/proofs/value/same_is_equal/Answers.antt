use Rattle.ent_values.proofs.Values.{same_bag-Decides, same_type-Decides, same_value-Decides, same_values-Decides}
use Rattle.ent_values.proofs.value.same_is_equal.Goals as goal

pub returns-clause-types : goal.returns-clause-types
returns-clause-types c = same_type-Decides

pub returns-clause-values : goal.returns-clause-values
returns-clause-values c = same_value-Decides

pub returns-clause-lists : goal.returns-clause-lists
returns-clause-lists c = same_values-Decides

pub returns-clause-bags : goal.returns-clause-bags
returns-clause-bags c = same_bag-Decides
