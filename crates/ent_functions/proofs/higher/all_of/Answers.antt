use Rattle.std.proofs.Common.{ap, sym, ◌∙◌}
use Rattle.ent_functions.specs.Applied.{all_of, comes_true_with}
use Rattle.ent_functions.specs.Arguments.{truth}
use Rattle.ent_functions.specs.Higher.{bag_values_in}
use Rattle.ent_functions.proofs.Inner.{inner_of}
use Rattle.ent_functions.proofs.Walks.{all_parts}
use Rattle.ent_functions.proofs.higher.all_of.Goals as goal

pub all_hold-requires : goal.all_hold-requires
all_hold-requires c =
    inner_of c.function_and_rest-function.result.0 c.function_and_rest-function.result.1.now c.args.arguments.now c.function_and_rest-function.ensures c.requires

pub returns : goal.returns
unfolding all_of
returns c =
    ap all_of c.function_and_rest-function.ensures
    ∙ ap truth (sym (all_parts (comes_true_with c.function_and_rest-function.result.0 c.function_and_rest-function.result.1.now) bag_values_in c.function_and_rest-function.result.1.now)
    ∙ sym c.all_hold.ensures)
