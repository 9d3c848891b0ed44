use Rattle.std.proofs.Common.{◌≡◌, drop}
use Rattle.std.specs.List.{list_any}
use Rattle.ent_functions.specs.Applied.{comes_true_with}
use Rattle.ent_functions.proofs.higher.any_holds_with.Given as goal

abbrev pub invariant-loop-value : goal.invariant-loop-value
invariant-loop-value l =
    list_any (comes_true_with l.function l.arguments) (drop l.value-index l.values) ≡ list_any (comes_true_with l.function l.arguments) l.values
