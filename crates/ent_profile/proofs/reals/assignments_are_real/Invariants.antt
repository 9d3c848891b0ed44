use Rattle.std.proofs.Common.{take}
use Rattle.std.specs.List.{AllByRecursion}
use Rattle.ent_values.specs.ReadBack.{IsReal}
use Rattle.ent_profile.proofs.reals.assignments_are_real.Given as goal

-- those so far
abbrev pub invariant-loop-assignment : goal.invariant-loop-assignment
invariant-loop-assignment l = AllByRecursion (λ a. IsReal a.value) (take l.assignment-index l.assignments)
