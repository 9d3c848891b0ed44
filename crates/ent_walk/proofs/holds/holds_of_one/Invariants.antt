use Rattle.std.proofs.Common.{◌≡◌, drop}
use Rattle.std.specs.List.{list_any}
use Rattle.ent_walk.specs.Target.{is_true}
use Rattle.ent_walk.proofs.holds.holds_of_one.Given as goal

abbrev pub invariant-loop-value : goal.invariant-loop-value
invariant-loop-value l = list_any (is_true l.function l.literal) (drop l.value-index l.values) ≡ list_any (is_true l.function l.literal) l.values
