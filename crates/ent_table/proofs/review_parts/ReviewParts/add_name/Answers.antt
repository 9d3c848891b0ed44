use Rattle.std.proofs.Common.{◌≡◌, ◌+◌, ◌≤◌, ◌^◌, length, None, Ok, refl, sym, ap, subst, ◌∙◌, arith}
use Rattle.std.proofs.lemmas.List.{length-map}
use Rattle.ent_finder.specs.Slots.{document_count}
use Rattle.ent_cells.specs.Order.{request_order}
use Rattle.ent_eval.specs.LooksOf.{held_by}
use Rattle.ent_log.specs.Tables.{Undoes}
use Rattle.ent_table.specs.Difference.{changes}
use Rattle.ent_table.specs.Names.{Names}
use Rattle.ent_table.specs.Fresh.{point_of, state_of}
use Rattle.ent_table.specs.Limits.{IsWithinGreatest}
use Rattle.ent_table.specs.State.{State, answer_at, fresh_cells}
use Rattle.ent_table.specs.Step.{name_added, next}
use Rattle.ent_table.specs.proofs_only.Table.{requests_with, unanswered}
use Rattle.ent_table.proofs.Changes.{changes-name_added, more_names}
use Rattle.ent_table.proofs.Counting.{made_counts, wanting_counts}
use Rattle.ent_table.proofs.Edited.{fresh_again}
use Rattle.ent_table.proofs.SerialTables.{kept_over, kept_stays, undone_more}
use Rattle.ent_table.proofs.Steps.{name_open, name_passes}
use Rattle.ent_table.proofs.Tables.{Shows, shows_more}
use Rattle.ent_table.proofs.Touched.{touched_more}
use Rattle.ent_table.proofs.review_parts.ReviewParts.add_name.Goals as goal

pub returns-in-Ok-clause-step : goal.returns-in-Ok-clause-step
returns-in-Ok-clause-step g c =
    let old = c.args.self.now in
    let s = state_of old in
    let list = c.args.list in
    let name = c.args.name in
    let shows : Shows s old.table = record { names = refl; cells = c.requires.cells } in
    let is = shows_more s list name old.table c.add.new.self shows c.in-Ok.ensures.ok in
    let counted = c.log_edit.ensures in
    let up : c.log_edit.new.self.log.serial ≡ old.log.serial + 1 = counted.logs.serial ∙ ap (λ n. n + 1) c.add.ensures.same.serial in
    let after : state_of c.log_edit.new.self ≡ more_names s list name =
    ap state_of counted.rest
    ∙ ap (λ n. record s { held = held_by c.add.new.self.cells.evaluator.pdp; names = c.add.new.self.names; serial = n }) up
    ∙ ap (λ p. record (next s) { held = held_by p; names = c.add.new.self.names }) c.in-Ok.ensures.rest
    ∙ ap (λ (n : Names). record (next s) { names = n }) is.names in
    let passes = name_passes s list name c.in_ok-name_fault.ensures in (
      passes.1 ∙ ap Ok (sym after),
      ap (λ a. a.serial) counted.accepted ∙ sym counted.logs.serial,
      ap (λ a. a.changes) counted.accepted ∙ ap length c.in-Ok.ensures.olds ∙ length-map (requests_with list name s.names) (λ x. record { key = x; answer = None }) ∙ sym (changes-name_added s list name passes.0) ∙ ap (λ (u : State). changes s u) (sym after),
    )

pub returns-in-Ok-clause-fresh : goal.returns-in-Ok-clause-fresh
returns-in-Ok-clause-fresh g c =
    let old = c.args.self.now in
    let s = state_of old in
    let list = c.args.list in
    let name = c.args.name in
    let new = c.log_edit.new.self in
    let tested = c.in_ok-name_fault.ensures in
    let ok : Ok (more_names s list name) ≡ Ok (state_of new) =
    sym (name_passes s list name tested).1 ∙ (returns-in-Ok-clause-step g c).0 in
    let after : more_names s list name ≡ state_of new = cc in
    let shows : Shows s old.table = record { names = refl; cells = c.requires.cells } in
    let is = shows_more s list name old.table c.add.new.self shows c.in-Ok.ensures.ok in
    let counted = c.log_edit.ensures in
    record {
      cells = ap (λ v. v.table.cells.kept) counted.rest ∙ is.cells ∙ ap (λ (u : State). fresh_cells u) after;
      documents = ap (λ v. v.documents) counted.rest
          ∙ c.requires.documents ∙ ap (λ (u : State). document_count u.held.modules) after;
      serial = subst (λ n. n ≤ 2 ^ 63) (ap (λ (u : State). u.serial) after)
          (omega (arith, name_open s list name tested));
      limits = subst IsWithinGreatest (sym (ap (λ v. v.limits) counted.rest)) c.requires.limits;
      closed = counted.logs.closed;
      room = counted.room;
    }

pub returns-in-Ok-clause-tables : goal.returns-in-Ok-clause-tables
returns-in-Ok-clause-tables g c =
    let s = state_of c.args.self.now in
    let list = c.args.list in
    let name = c.args.name in
    let new = c.log_edit.new.self in
    let passes = name_passes s list name c.in_ok-name_fault.ensures in
    let ok : Ok (more_names s list name) ≡ Ok (state_of new) = sym passes.1 ∙ (returns-in-Ok-clause-step g c).0 in
    let after : more_names s list name ≡ state_of new = cc in
    let olds : unanswered (requests_with list name s.names) ≡ c.in-Ok.olds = sym c.in-Ok.ensures.olds in
    kept_over c.args.self.now new c.add.new.log c.in-Ok.olds c.add.ensures.same c.log_edit.ensures.logs
    (subst (λ t. Undoes request_order c.in-Ok.olds (answer_at s) (answer_at t)) after
    (subst (λ os. Undoes request_order os (answer_at s) (answer_at (more_names s list name))) olds (undone_more s list name passes.0)))

pub returns-in-Ok-clause-counted : goal.returns-in-Ok-clause-counted
returns-in-Ok-clause-counted g c =
    let s = state_of c.args.self.now in
    let list = c.args.list in
    let name = c.args.name in
    let passes = name_passes s list name c.in_ok-name_fault.ensures in
    λ h. made_counts (name_added s list name) s (more_names s list name) (point_of c.args.self.now).evaluations (point_of c.log_edit.new.self).evaluations (length (requests_with list name s.names)) c.log_edit.result
    passes.1 (sym (touched_more s list name passes.0)) (ap (λ v. (point_of v).evaluations) c.log_edit.ensures.rest ∙ c.in-Ok.ensures.counted h)

pub returns-in-Err-clause-counted : goal.returns-in-Err-clause-counted
returns-in-Err-clause-counted g c =
    let s = state_of c.args.self.now in
    let list = c.args.list in
    let name = c.args.name in
    let passes = name_passes s list name c.in_ok-name_fault.ensures in
    λ h. wanting_counts (name_added s list name) s (more_names s list name) (point_of c.args.self.now).evaluations c.add.new.self.cells.evaluator.pdp.evaluations (length (requests_with list name s.names))
    passes.1 (sym (touched_more s list name passes.0)) (c.in-Err.ensures.bound h)

pub returns-in-Err-clause-step : goal.returns-in-Err-clause-step
returns-in-Err-clause-step g c =
    let s = state_of c.args.self.now in
    let failed = c.in-Err.ensures in
    (tt, (λ i. record s { held = held_by (failed.rest i); names = failed.err.names i; serial = failed.same.serial i }))

pub returns-in-Err-clause-fresh : goal.returns-in-Err-clause-fresh
returns-in-Err-clause-fresh g c =
    let old = c.args.self.now in
    let new = record old { table = c.add.new.self; log = c.add.new.log } in
    let failed = c.in-Err.ensures in
    fresh_again old new c.requires failed.err.cells
    refl failed.same failed.grows (returns-in-Err-clause-step g c).1

pub returns-in-Err-clause-tables : goal.returns-in-Err-clause-tables
returns-in-Err-clause-tables g c =
    let old = c.args.self.now in
    let new = record old { table = c.add.new.self; log = c.add.new.log } in
    kept_stays old new c.in-Err.ensures.same (returns-in-Err-clause-step g c).1
