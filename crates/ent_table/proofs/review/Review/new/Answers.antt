use Rattle.std.proofs.Common.{◌≡◌, ◌≤◌, ◌^◌, List, length, map, sym, ap, subst, ◌∙◌, arith}
use Rattle.ent_cells.specs.Cell.{cell_of}
use Rattle.ent_eval.specs.LooksOf.{held_by, looks_of}
use Rattle.ent_finder.specs.Slots.{Slots, document_count, held}
use Rattle.ent_log.specs.Tables.{room_of}
use Rattle.ent_table.specs.Names.{triples}
use Rattle.ent_table.proofs.review.Review.new.Goals as goal

pub invariant_of-result : goal.invariant_of-result
invariant_of-result g c =
    let empty = c.new.ensures in
    let log = c.new-2.result in
    let same = ap (λ t. t.cells.evaluator.pdp) empty in
    record {
      cells = ap (λ t. t.cells.kept) empty
          ∙ sym (ap (λ t. map (cell_of (looks_of c.new.result.cells.evaluator.pdp)) (triples t.names)) empty);
      documents = c.document_count-documents.ensures
          ∙ ap (λ (slots : List Slots). document_count (map held slots)) c.policies.ensures
          ∙ ap (λ p. document_count (held_by p).modules) (c.pdp.ensures ∙ sym same);
      serial = subst (λ n. n ≤ 2 ^ 63) (sym c.new-2.ensures.serial) (omega arith);
      limits = c.requires;
      closed = c.new-2.ensures.closed;
      room = subst (λ t. length t.cells.kept ≤ room_of log) (sym empty) (omega arith);
    }
