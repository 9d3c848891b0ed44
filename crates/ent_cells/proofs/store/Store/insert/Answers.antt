use Rattle.std.proofs.Common.{◌≡◌, refl, sym, subst, ◌∙◌}
use Rattle.ent_eval.specs.LooksOf.{looks_of}
use Rattle.ent_request.specs.Looks.{Looks}
use Rattle.ent_cells.proofs.Grouped.{stays_itself, still_seen, still_store}
use Rattle.ent_cells.proofs.StoreSteps.{is_grouped, on_err, put_seen, put_store, roomier_seen, roomier_store, said_right, vacant_seen, vacant_store}
use Rattle.ent_cells.specs.Cell.{says}
use Rattle.ent_cells.specs.declared.cell.Grouped.{Grouped}
use Rattle.ent_eval.specs.declared.who.Who.{Who}
use Rattle.ent_cells.specs.Entries.{Stored}
use Rattle.ent_cells.specs.proofs_only.Entries.{Inserts, entry_of_cell}
use Rattle.ent_cells.specs.proofs_only.Grouping.{said_in, seen}
use Rattle.ent_cells.proofs.store.Store.insert.Goals as goal

pub invariant_of-self : goal.invariant_of-self
invariant_of-self g c = roomier_store (g.E.Evaluates.evaluator c.self.inside.evaluator).questions c.self.inside.groups c.self.inside.slab c.reserve.new.self c.reserve.ensures.rest_kept c.self.invariant

pub invariant_of-self-in_err-evaluation : goal.invariant_of-self-in_err-evaluation
invariant_of-self-in_err-evaluation g c =
    let gs = c.self.inside.groups in
    let q = (g.E.Evaluates.evaluator c.self.inside.evaluator).questions in
    still_store q (g.E.Evaluates.evaluator c.evaluate.new.evaluator).questions gs gs c.evaluate.ensures.begins (stays_itself gs) c.reserve.new.self (roomier_store q gs c.self.inside.slab c.reserve.new.self c.reserve.ensures.rest_kept c.self.invariant)

pub returns-in_err-evaluation-clause-err : goal.returns-in_err-evaluation-clause-err
returns-in_err-evaluation-clause-err g c =
    let gs = c.self.inside.groups in
    let q = (g.E.Evaluates.evaluator c.self.inside.evaluator).questions in
    on_err c.from_residual-in_err-evaluation.result
    (still_seen q (g.E.Evaluates.evaluator c.evaluate.new.evaluator).questions gs gs c.evaluate.ensures.begins (stays_itself gs) c.reserve.new.self (roomier_store q gs c.self.inside.slab c.reserve.new.self c.reserve.ensures.rest_kept c.self.invariant)
    ∙ roomier_seen q gs c.self.inside.slab c.reserve.new.self c.reserve.ensures.rest_kept
    ∙ (λ j. (c.self.view_is j).cells))

pub invariant_of-self-in_err-answer : goal.invariant_of-self-in_err-answer
invariant_of-self-in_err-answer g c =
    let gs = c.self.inside.groups in
    let q = (g.E.Evaluates.evaluator c.self.inside.evaluator).questions in
    still_store q (g.E.Evaluates.evaluator c.evaluate.new.evaluator).questions gs gs c.evaluate.ensures.begins (stays_itself gs) c.reserve.new.self (roomier_store q gs c.self.inside.slab c.reserve.new.self c.reserve.ensures.rest_kept c.self.invariant)

pub returns-in_err-answer-clause-err : goal.returns-in_err-answer-clause-err
returns-in_err-answer-clause-err g c =
    let gs = c.self.inside.groups in
    let q = (g.E.Evaluates.evaluator c.self.inside.evaluator).questions in
    on_err c.from_residual-in_err-answer.result
    (still_seen q (g.E.Evaluates.evaluator c.evaluate.new.evaluator).questions gs gs c.evaluate.ensures.begins (stays_itself gs) c.reserve.new.self (roomier_store q gs c.self.inside.slab c.reserve.new.self c.reserve.ensures.rest_kept c.self.invariant)
    ∙ roomier_seen q gs c.self.inside.slab c.reserve.new.self c.reserve.ensures.rest_kept
    ∙ (λ j. (c.self.view_is j).cells))

pub invariant_of-self-in_err-group : goal.invariant_of-self-in_err-group
invariant_of-self-in_err-group g c =
    let gs = c.self.inside.groups in
    let q = (g.E.Evaluates.evaluator c.self.inside.evaluator).questions in
    vacant_store q (g.E.Evaluates.evaluator c.evaluate.new.evaluator).questions gs c.enter.new.groups c.reserve.new.self c.vacant_key-key.result c.evaluate.ensures.begins c.enter.ensures.others
    (roomier_store q gs c.self.inside.slab c.reserve.new.self c.reserve.ensures.rest_kept c.self.invariant) c.vacant_key-key.ensures.vacant

pub returns-in_err-group-clause-err : goal.returns-in_err-group-clause-err
returns-in_err-group-clause-err g c =
    let gs = c.self.inside.groups in
    let q = (g.E.Evaluates.evaluator c.self.inside.evaluator).questions in
    on_err c.from_residual-in_err-group.result
    (vacant_seen q (g.E.Evaluates.evaluator c.evaluate.new.evaluator).questions gs c.enter.new.groups c.reserve.new.self c.vacant_key-key.result c.evaluate.ensures.begins c.enter.ensures.others
    (roomier_store q gs c.self.inside.slab c.reserve.new.self c.reserve.ensures.rest_kept c.self.invariant) c.vacant_key-key.ensures.vacant
    ∙ roomier_seen q gs c.self.inside.slab c.reserve.new.self c.reserve.ensures.rest_kept
    ∙ (λ j. (c.self.view_is j).cells))

pub invariant_of-self-2 : goal.invariant_of-self-2
invariant_of-self-2 g c =
    let gs = c.self.inside.groups in
    let q = (g.E.Evaluates.evaluator c.self.inside.evaluator).questions in
    let key = c.vacant_key-key.result in
    let said : Grouped = record { answer = c.in_ok-answer.answer; failed = c.in_ok-evaluation.evaluation.failed; group = c.in_ok-group.group } in
    let same : c.insert_reserved.result ≡ key = c.insert_reserved.ensures.key ∙ sym c.vacant_key-key.ensures.value in
    put_store q (g.E.Evaluates.evaluator c.evaluate.new.evaluator).questions gs c.enter.new.groups c.reserve.new.self c.insert_reserved.new.self key c.args.who said c.evaluate.ensures.begins c.enter.ensures.others
    (roomier_store q gs c.self.inside.slab c.reserve.new.self c.reserve.ensures.rest_kept c.self.invariant) c.vacant_key-key.ensures.vacant
    (rw same at c.insert_reserved.ensures.updates)
    (is_grouped (g.E.Evaluates.evaluator c.evaluate.new.evaluator).questions c.enter.new.groups key said c.in_ok-evaluation.evaluation.asked c.in_ok-group.ensures.there (c.in_ok-group.ensures.numbers ∙ c.as_slice-asked.ensures ∙ c.get-2.ensures) c.in_ok-evaluation.ensures.within)
    (rw c.get-3.ensures at c.in_ok-group.ensures.named)

pub returns-clause-ok : goal.returns-clause-ok
returns-clause-ok g c =
    let looks : Looks = looks_of (g.E.Evaluates.evaluator c.self.inside.evaluator).pdp in
    let gs = c.self.inside.groups in
    let q = (g.E.Evaluates.evaluator c.self.inside.evaluator).questions in
    let new = (g.E.Evaluates.evaluator c.evaluate.new.evaluator).questions in
    let e = c.in_ok-evaluation.evaluation in
    let x : Who = c.args.who in
    let key = c.vacant_key-key.result in
    let said : Grouped = record { answer = c.in_ok-answer.answer; failed = c.in_ok-evaluation.evaluation.failed; group = c.in_ok-group.group } in
    let same : c.insert_reserved.result ≡ key = c.insert_reserved.ensures.key ∙ sym c.vacant_key-key.ensures.value in
    let so : said_in new x e ≡ says looks x = subst (λ (y : Who). said_in new y e ≡ says looks y) c.get.ensures c.in_ok-evaluation.ensures.said in
    subst (λ (v : Stored). Inserts (entry_of_cell x (says (looks_of v.evaluator.pdp) x)) v.cells (seen new c.enter.new.groups c.insert_reserved.new.self) c.insert_reserved.result) c.self.view_is
    (rw same
    (subst (λ old. Inserts (entry_of_cell x (says looks x)) old (seen new c.enter.new.groups c.insert_reserved.new.self) key)
    (roomier_seen q gs c.self.inside.slab c.reserve.new.self c.reserve.ensures.rest_kept)
    (put_seen q new gs c.enter.new.groups c.reserve.new.self c.insert_reserved.new.self key x said c.evaluate.ensures.begins c.enter.ensures.others
    (roomier_store q gs c.self.inside.slab c.reserve.new.self c.reserve.ensures.rest_kept c.self.invariant) c.vacant_key-key.ensures.vacant
    (rw same at c.insert_reserved.ensures.updates)
    (is_grouped new c.enter.new.groups key said e.asked c.in_ok-group.ensures.there (c.in_ok-group.ensures.numbers ∙ c.as_slice-asked.ensures ∙ c.get-2.ensures) c.in_ok-evaluation.ensures.within)
    (rw c.get-3.ensures at c.in_ok-group.ensures.named)
    looks (said_right new c.enter.new.groups looks x e said c.in_ok-answer.ensures refl (c.in_ok-group.ensures.numbers ∙ c.as_slice-asked.ensures ∙ c.get-2.ensures) so))))

pub returns-in_err-evaluation-clause-bound : goal.returns-in_err-evaluation-clause-bound
returns-in_err-evaluation-clause-bound g c = rw (← c.self.view_is) c.evaluate.ensures.bound

pub returns-in_err-evaluation-clause-rest : goal.returns-in_err-evaluation-clause-rest
returns-in_err-evaluation-clause-rest g c = rw (← c.self.view_is) c.evaluate.ensures.rest

pub returns-in_err-answer-clause-bound : goal.returns-in_err-answer-clause-bound
returns-in_err-answer-clause-bound g c = rw (← c.self.view_is) c.evaluate.ensures.bound

pub returns-in_err-answer-clause-rest : goal.returns-in_err-answer-clause-rest
returns-in_err-answer-clause-rest g c = rw (← c.self.view_is) c.evaluate.ensures.rest

pub returns-in_err-group-clause-bound : goal.returns-in_err-group-clause-bound
returns-in_err-group-clause-bound g c = rw (← c.self.view_is) c.evaluate.ensures.bound

pub returns-in_err-group-clause-rest : goal.returns-in_err-group-clause-rest
returns-in_err-group-clause-rest g c = rw (← c.self.view_is) c.evaluate.ensures.rest

pub returns-clause-bound : goal.returns-clause-bound
returns-clause-bound g c = rw (← c.self.view_is) c.evaluate.ensures.bound

pub returns-clause-rest : goal.returns-clause-rest
returns-clause-rest g c = rw (← c.self.view_is) c.evaluate.ensures.rest

pub returns-clause-counted : goal.returns-clause-counted
returns-clause-counted g c = rw (← c.self.view_is) c.in_ok-evaluation.ensures.counted
