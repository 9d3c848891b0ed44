-- An edit that exchanges one thing and makes the cells right again, or takes it back.
use Rattle.std.proofs.Common.{◌≡◌, ◌≤◌, ◌^◌, List, length, sym, ap, subst, ◌∙◌, arith}
use Rattle.ent_cells.specs.Cell.{Kept, answers_in, unlike_count}
use Rattle.ent_finder.specs.Slots.{document_count}
use Rattle.ent_log.specs.Entries.{entries_since}
use Rattle.ent_log.specs.Tables.{IsSameLog, room_of}
use Rattle.ent_table.specs.declared.review_parts.ReviewParts.{ReviewParts}
use Rattle.ent_table.specs.proofs_only.Change.{Stays}
use Rattle.ent_table.specs.Difference.{changes}
use Rattle.ent_table.specs.Limits.{IsWithinGreatest}
use Rattle.ent_table.specs.Fresh.{IsFresh}
use Rattle.ent_table.specs.State.{State, fresh_cells}
use Rattle.ent_table.specs.Step.{next}
use Rattle.ent_table.proofs.Changes.{changes-same_names}
use Rattle.ent_table.proofs.Kept.{fresh_answers}

-- as many answers are unlike as the edit changes
pub unlike_changes : (s t : State) (old new : List Kept) → t.names ≡ s.names → old ≡ fresh_cells s → new ≡ fresh_cells t → unlike_count (answers_in old) (answers_in new) ≡ changes s (next t)
unlike_changes s t old new names was is = (λ i. unlike_count (fresh_answers s old was i) (fresh_answers t new is i)) ∙ sym (changes-same_names s (next t) names)

module _ {E A P D : Type 0} where
  -- where state, cells, count of documents and what is logged are as before, the cells are right as before
  pub fresh_again : (old new : ReviewParts E A P D) → IsFresh old → new.table.cells.kept ≡ old.table.cells.kept → new.documents ≡ old.documents
      → IsSameLog old.log new.log → room_of old.log ≤ room_of new.log → Stays old new → IsFresh new
  fresh_again old new is cells documents log grows same = record {
    cells = cells ∙ is.cells ∙ ap (λ (u : State). fresh_cells u) (sym same);
    documents = documents ∙ is.documents ∙ ap (λ (u : State). document_count u.held.modules) (sym same);
    serial = subst (λ n. n ≤ 2 ^ 63) (ap (λ (u : State). u.serial) (sym same)) is.serial;
    limits = subst IsWithinGreatest (ap (λ (u : State). u.limits) (sym same)) is.limits;
    closed = (λ i. entries_since (log.serial i) (log.entries i)) ∙ is.closed;
    room = let long : length new.table.cells.kept ≡ length old.table.cells.kept = ap length cells in omega (arith, long, is.room, grows);
  }
