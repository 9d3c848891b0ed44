use Rattle.std.proofs.Common.{◌≡◌, drop}
use Rattle.std.specs.List.{list_any}
use Rattle.ent_functions.specs.Applied.{comes_true_with}
use Rattle.ent_functions.specs.Higher.{bag_values_in}
use Rattle.ent_functions.proofs.higher.any_holds.Given as goal

abbrev pub invariant-loop-argument : goal.invariant-loop-argument
invariant-loop-argument l =
    list_any (λ argument. list_any (comes_true_with l.function l.arguments) (bag_values_in argument)) (drop l.argument-index l.arguments)
    ≡ list_any (λ argument. list_any (comes_true_with l.function l.arguments) (bag_values_in argument)) l.arguments
