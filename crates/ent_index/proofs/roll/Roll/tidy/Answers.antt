use Rattle.std.proofs.Common.{length, ap, subst, sym, ◌∙◌}
use Rattle.ent_index.proofs.Placed.{filled_words}
use Rattle.ent_index.proofs.WordCells.{filled_cells}
use Rattle.ent_index.specs.Rolls.{cells_of}
use Rattle.ent_index.specs.proofs_only.Rolls.{AreWords}
use Rattle.ent_index.proofs.roll.Roll.tidy.Goals as goal

pub invariant_of-self-then-are_sparse : goal.invariant_of-self-then-are_sparse
invariant_of-self-then-are_sparse c =
    let words = c.self.inside.words.items in (
      subst (AreWords 0) (sym c.keep_filled.ensures) (filled_words 0 words c.self.invariant.0),
      c.self.invariant.1 ∙ ap length (sym (filled_cells words)) ∙ ap (λ ws. length (cells_of ws)) (sym c.keep_filled.ensures),
    )

pub returns-then-are_sparse : goal.returns-then-are_sparse
returns-then-are_sparse c = ap cells_of c.keep_filled.ensures ∙ filled_cells c.self.inside.words.items ∙ c.self.view_is
