use Rattle.std.proofs.Common.{ap, subst, sym, ◌++◌, ◌∙◌}
use Rattle.std.specs.List.Sorted.{IsStrictlySortedBy}
use Rattle.std.specs.Ordering.{nat_cmp}
use Rattle.ent_index.proofs.WordCells.{words_sorted}
use Rattle.ent_index.specs.Rolls.{cells_of}
use Rattle.ent_index.proofs.roll.Roll.to_vec.Goals as goal

pub returns-clause-ordered : goal.returns-clause-ordered
returns-clause-ordered c =
    subst (IsStrictlySortedBy nat_cmp) (sym (c.in_ok-push_all.ensures ∙ ap (λ xs. xs ++ cells_of c.deref.result.now) c.in_ok-cells.ensures.items ∙ ap cells_of c.deref.ensures.value))
    (words_sorted 0 c.self.inside.words.items c.self.invariant.0)
