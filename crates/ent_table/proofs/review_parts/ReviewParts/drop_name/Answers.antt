use Rattle.std.proofs.Common.{◌≡◌, ◌+◌, ◌≤◌, ◌^◌, ℕ, List, Ok, refl, sym, ap, subst, ◌∙◌, false, arith, leb-false, length}
use Rattle.ent_cells.specs.Old.{IsLogged}
use Rattle.ent_eval.specs.Evaluator.{Evaluator}
use Rattle.ent_eval.specs.LooksOf.{held_by}
use Rattle.ent_finder.specs.Slots.{document_count}
use Rattle.ent_table.specs.Difference.{changes}
use Rattle.ent_table.specs.Fresh.{point_of, state_of}
use Rattle.ent_table.specs.State.{State, fresh_cells}
use Rattle.ent_table.specs.Step.{is_last, name_dropped, next}
use Rattle.ent_table.specs.proofs_only.Table.{IsDropped}
use Rattle.ent_table.specs.Tables.{Logs}
use Rattle.ent_table.proofs.Changes.{less_names}
use Rattle.ent_table.proofs.Counting.{made_counts, raised_none}
use Rattle.ent_table.proofs.Logs.{same_log}
use Rattle.ent_table.proofs.SerialTables.{kept_over, undone}
use Rattle.ent_table.proofs.Steps.{name_leaves}
use Rattle.ent_table.proofs.Tables.{Shows, dropped_changes, shows_less}
use Rattle.ent_table.proofs.Touched.{touched_less}
use Rattle.ent_table.proofs.review_parts.ReviewParts.drop_name.Goals as goal

pub returns-clause-step : goal.returns-clause-step
returns-clause-step g c =
    let old = c.args.self.now in
    let s = state_of old in
    let list = c.args.list in
    let name = c.args.name.now in
    let new = c.remove.new.self in
    let count = c.in-Some.changes in
    let shows : Shows s old.table = record { names = refl; cells = c.requires.cells } in
    let dropped : IsDropped list name old.table new count = subst (λ (k : List ℕ). IsDropped list k old.table new count) c.as_str-2.ensures c.in-Some.ensures.dropped in
    let is = shows_less s list name old.table new count shows dropped in
    let up : c.close.new.self.serial ≡ old.log.serial + 1 = c.close.ensures.serial ∙ ap (λ n. n + 1) c.remove.ensures.serial in
    let after : state_of (record old { table = new; log = c.close.new.self }) ≡ less_names s list name = (λ i. record (next s) { held = held_by (c.remove.ensures.evaluator i).pdp; names = is.names i; serial = up i }) in
    let open_ : is_last s ≡ false = sym c.is_last.ensures ∙ c.if-is_last.false in (
      name_leaves s list name dropped.there open_ ∙ ap Ok (sym after),
      ap (λ a. a.serial) c.accepted.ensures,
      ap (λ a. a.changes) c.accepted.ensures ∙ dropped_changes s list name old.table new count shows dropped ∙ ap (λ (u : State). changes s u) (sym after),
    )

pub returns-clause-fresh : goal.returns-clause-fresh
returns-clause-fresh g c =
    let old = c.args.self.now in
    let s = state_of old in
    let list = c.args.list in
    let name = c.args.name.now in
    let table = c.remove.new.self in
    let new = record old { table = table; log = c.close.new.self } in
    let shows : Shows s old.table = record { names = refl; cells = c.requires.cells } in
    let dropped : IsDropped list name old.table table c.in-Some.changes =
    subst (λ (k : List ℕ). IsDropped list k old.table table c.in-Some.changes) c.as_str-2.ensures
    c.in-Some.ensures.dropped in
    let open_ : is_last s ≡ false = sym c.is_last.ensures ∙ c.if-is_last.false in
    let left : Ok (less_names s list name) ≡ Ok (state_of new) =
    sym (name_leaves s list name dropped.there open_) ∙ (returns-clause-step g c).0 in
    let after : less_names s list name ≡ state_of new = cc in
    record {
      cells = (shows_less s list name old.table table c.in-Some.changes shows dropped).cells
          ∙ ap (λ (u : State). fresh_cells u) after;
      documents = c.requires.documents
          ∙ ap (λ (e : Evaluator). document_count (held_by e.pdp).modules) (sym c.remove.ensures.evaluator);
      serial = subst (λ n. n ≤ 2 ^ 63) (ap (λ (u : State). u.serial) after)
          (omega (arith, leb-false (2 ^ 63) s.serial open_));
      limits = c.requires.limits;
      closed = c.close.ensures.closed;
      room = subst (λ n. length table.cells.kept ≤ n) (sym c.close.ensures.room) c.remove.ensures.room;
    }

pub returns-clause-counted : goal.returns-clause-counted
returns-clause-counted g c =
    let s = state_of c.args.self.now in
    let old = c.args.self.now in
    let list = c.args.list in
    let name = c.args.name.now in
    let dropped : IsDropped list name old.table c.remove.new.self c.in-Some.changes = subst (λ (k : List ℕ). IsDropped list k old.table c.remove.new.self c.in-Some.changes) c.as_str-2.ensures c.in-Some.ensures.dropped in
    λ h. made_counts (name_dropped s list name) s (less_names s list name) (point_of old).evaluations c.remove.new.self.cells.evaluator.pdp.evaluations 0 c.accepted.result
    (name_leaves s list name dropped.there (sym c.is_last.ensures ∙ c.if-is_last.false)) (sym (touched_less s list name)) (ap (λ (e : Evaluator). e.pdp.evaluations) c.remove.ensures.evaluator ∙ sym (raised_none (point_of old).evaluations h))

pub returns-clause-tables : goal.returns-clause-tables
returns-clause-tables g c =
    let old = c.args.self.now in
    let new = record old { table = c.remove.new.self; log = c.close.new.self } in
    let s = state_of old in
    let list = c.args.list in
    let name = c.args.name.now in
    let shows : Shows s old.table = record { names = refl; cells = c.requires.cells } in
    let dropped : IsDropped list name old.table c.remove.new.self c.in-Some.changes = subst (λ (k : List ℕ). IsDropped list k old.table c.remove.new.self c.in-Some.changes) c.as_str-2.ensures c.in-Some.ensures.dropped in
    let logged : IsLogged old.table.cells.kept c.remove.new.self.cells.kept old.log c.remove.new.log = c.in-Some.ensures.logged in
    let logs : Logs logged.0 old.log c.close.new.self = record {
      from = c.close.ensures.from ∙ c.remove.ensures.from;
      serial = c.close.ensures.serial ∙ ap (λ n. n + 1) c.remove.ensures.serial;
      closed = c.close.ensures.closed;
      kept = λ before after undoes n le k.
          c.close.ensures.kept after after (λ _. refl) n (subst (λ m. n ≤ m) (sym c.remove.ensures.serial) le) k ∙ logged.2 before after undoes n le k;
    } in
    let left : Ok (less_names s list name) ≡ Ok (state_of new) =
    sym (name_leaves s list name dropped.there (sym c.is_last.ensures ∙ c.if-is_last.false)) ∙ (returns-clause-step g c).0 in
    let after : less_names s list name ≡ state_of new = cc in
    let is = (shows_less s list name old.table c.remove.new.self c.in-Some.changes shows dropped).cells ∙ ap (λ (u : State). fresh_cells u) after in
    kept_over old new old.log logged.0 (same_log old.log old.log refl) logs (undone s (state_of new) old.table.cells.kept c.remove.new.self.cells.kept logged.0 c.requires.cells is logged.1)
