use Rattle.std.proofs.Common.{ap, sym, ◌∙◌}
use Rattle.ent_functions.specs.Applied.{any_of, comes_true_with}
use Rattle.ent_functions.specs.Arguments.{truth}
use Rattle.ent_functions.specs.Higher.{bag_values_in}
use Rattle.ent_functions.proofs.Inner.{inner_of}
use Rattle.ent_functions.proofs.Walks.{any_parts}
use Rattle.ent_functions.proofs.higher.any_of.Goals as goal

pub any_holds-requires : goal.any_holds-requires
any_holds-requires c =
    inner_of c.function_and_rest-function.result.0 c.function_and_rest-function.result.1.now c.args.arguments.now c.function_and_rest-function.ensures c.requires

pub returns : goal.returns
unfolding any_of
returns c =
    ap any_of c.function_and_rest-function.ensures
    ∙ ap truth (sym (any_parts (comes_true_with c.function_and_rest-function.result.0 c.function_and_rest-function.result.1.now) bag_values_in c.function_and_rest-function.result.1.now)
    ∙ sym c.any_holds.ensures)
