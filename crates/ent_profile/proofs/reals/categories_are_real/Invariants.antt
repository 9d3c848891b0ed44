use Rattle.std.proofs.Common.{take}
use Rattle.std.specs.List.{AllByRecursion}
use Rattle.ent_profile.specs.proofs_only.Reals.{CategoryIsReal}
use Rattle.ent_profile.proofs.reals.categories_are_real.Given as goal

-- those so far
abbrev pub invariant-loop-category : goal.invariant-loop-category
invariant-loop-category l = AllByRecursion CategoryIsReal (take l.category-index l.categories)
