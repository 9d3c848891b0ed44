use Rattle.std.proofs.Common.{◌≡◌, refl, sym, subst, ap, ◌∙◌}
use Rattle.std.proofs.lemmas.Option.{same_Some}
use Rattle.ent_eval.specs.LooksOf.{looks_of}
use Rattle.ent_request.specs.Looks.{Looks}
use Rattle.ent_cells.proofs.Grouped.{joined_stays, stays_itself, still_seen, still_store}
use Rattle.ent_cells.proofs.StoreSteps.{is_grouped, on_err, prepared_seen, prepared_store, said_right}
use Rattle.ent_cells.specs.Cell.{says}
use Rattle.ent_cells.specs.declared.cell.Grouped.{Grouped}
use Rattle.ent_eval.specs.declared.who.Who.{Who}
use Rattle.ent_cells.specs.Entries.{Stored}
use Rattle.ent_cells.specs.proofs_only.Entries.{Becomes}
use Rattle.ent_cells.specs.proofs_only.Grouping.{said_in, seen}
use Rattle.ent_cells.specs.proofs_only.Phases.{made_ready}
use Rattle.ent_cells.proofs.store.Store.prepare.Goals as goal

pub invariant_of-self : goal.invariant_of-self
invariant_of-self g c =
    let gs = c.self.inside.groups in
    still_store (g.E.Evaluates.evaluator c.self.inside.evaluator).questions (g.E.Evaluates.evaluator c.evaluate.new.evaluator).questions gs gs c.evaluate.ensures.begins (stays_itself gs) c.self.inside.slab c.self.invariant

pub returns-in_err-evaluation-clause-err : goal.returns-in_err-evaluation-clause-err
returns-in_err-evaluation-clause-err g c =
    let gs = c.self.inside.groups in
    on_err c.from_residual.result (still_seen (g.E.Evaluates.evaluator c.self.inside.evaluator).questions (g.E.Evaluates.evaluator c.evaluate.new.evaluator).questions gs gs c.evaluate.ensures.begins (stays_itself gs) c.self.inside.slab c.self.invariant ∙ (λ j. (c.self.view_is j).cells))

pub invariant_of-self-in_err-answer : goal.invariant_of-self-in_err-answer
invariant_of-self-in_err-answer g c =
    let gs = c.self.inside.groups in
    still_store (g.E.Evaluates.evaluator c.self.inside.evaluator).questions (g.E.Evaluates.evaluator c.evaluate.new.evaluator).questions gs gs c.evaluate.ensures.begins (stays_itself gs) c.self.inside.slab c.self.invariant

pub returns-in_err-answer-clause-err : goal.returns-in_err-answer-clause-err
returns-in_err-answer-clause-err g c =
    let gs = c.self.inside.groups in
    on_err c.from_residual-in_err-answer.result (still_seen (g.E.Evaluates.evaluator c.self.inside.evaluator).questions (g.E.Evaluates.evaluator c.evaluate.new.evaluator).questions gs gs c.evaluate.ensures.begins (stays_itself gs) c.self.inside.slab c.self.invariant ∙ (λ j. (c.self.view_is j).cells))

pub invariant_of-self-in_err-group : goal.invariant_of-self-in_err-group
invariant_of-self-in_err-group g c =
    let gs = c.self.inside.groups in
    let joined = c.regroup.new.groups in
    still_store (g.E.Evaluates.evaluator c.self.inside.evaluator).questions (g.E.Evaluates.evaluator c.evaluate.new.evaluator).questions gs joined c.evaluate.ensures.begins (joined_stays gs joined c.regroup.ensures.groups c.regroup.ensures.names) c.self.inside.slab c.self.invariant

pub returns-in_err-group-clause-err : goal.returns-in_err-group-clause-err
returns-in_err-group-clause-err g c =
    let gs = c.self.inside.groups in
    let joined = c.regroup.new.groups in
    on_err c.from_residual-in_err-group.result
    (still_seen (g.E.Evaluates.evaluator c.self.inside.evaluator).questions (g.E.Evaluates.evaluator c.evaluate.new.evaluator).questions gs joined c.evaluate.ensures.begins (joined_stays gs joined c.regroup.ensures.groups c.regroup.ensures.names) c.self.inside.slab c.self.invariant ∙ (λ j. (c.self.view_is j).cells))

pub invariant_of-self-2 : goal.invariant_of-self-2
invariant_of-self-2 g c =
    let gs = c.self.inside.groups in
    let joined = c.regroup.new.groups in
    let said : Grouped = record { answer = c.in_ok-answer.answer; failed = c.in_ok-evaluation.evaluation.failed; group = c.in_ok-group.group } in
    prepared_store (g.E.Evaluates.evaluator c.self.inside.evaluator).questions (g.E.Evaluates.evaluator c.evaluate.new.evaluator).questions gs joined c.self.inside.slab c.make_ready.new.cells c.args.key said c.evaluate.ensures.begins
    (joined_stays gs joined c.regroup.ensures.groups c.regroup.ensures.names) c.self.invariant (rw (← c.self.view_is) at c.requires) c.make_ready.ensures
    (is_grouped (g.E.Evaluates.evaluator c.evaluate.new.evaluator).questions joined c.args.key said c.in_ok-evaluation.evaluation.asked c.in_ok-group.ensures.there (c.in_ok-group.ensures.numbers ∙ c.as_slice-asked.ensures ∙ c.get-3.ensures) c.in_ok-evaluation.ensures.within)

pub returns-clause-ok : goal.returns-clause-ok
returns-clause-ok g c =
    let looks : Looks = looks_of (g.E.Evaluates.evaluator c.self.inside.evaluator).pdp in
    let gs = c.self.inside.groups in
    let joined = c.regroup.new.groups in
    let q = (g.E.Evaluates.evaluator c.evaluate.new.evaluator).questions in
    let e = c.in_ok-evaluation.evaluation in
    let said : Grouped = record { answer = c.in_ok-answer.answer; failed = c.in_ok-evaluation.evaluation.failed; group = c.in_ok-group.group } in
    let x : Who = c.in-Some.cell.now.who in
    let so : said_in q x e ≡ says looks x = subst (λ (y : Who). said_in q y e ≡ says looks y) c.get-2.ensures c.in_ok-evaluation.ensures.said in
    subst (λ (v : Stored). Becomes (made_ready (looks_of v.evaluator.pdp)) c.args.key v.cells (seen q joined c.make_ready.new.cells)) c.self.view_is
    (prepared_seen (g.E.Evaluates.evaluator c.self.inside.evaluator).questions q gs joined c.self.inside.slab c.make_ready.new.cells c.args.key said c.evaluate.ensures.begins
    (joined_stays gs joined c.regroup.ensures.groups c.regroup.ensures.names) c.self.invariant (rw (← c.self.view_is) at c.requires) c.make_ready.ensures
    (is_grouped q joined c.args.key said e.asked c.in_ok-group.ensures.there (c.in_ok-group.ensures.numbers ∙ c.as_slice-asked.ensures ∙ c.get-3.ensures) c.in_ok-evaluation.ensures.within)
    looks x (λ cell at. ap (λ y. y.who) (same_Some cell c.in-Some.cell.now (sym at ∙ sym c.in-Some.ensures)))
    (said_right q joined looks x e said c.in_ok-answer.ensures refl (c.in_ok-group.ensures.numbers ∙ c.as_slice-asked.ensures ∙ c.get-3.ensures) so))

pub returns-in_err-evaluation-clause-bound : goal.returns-in_err-evaluation-clause-bound
returns-in_err-evaluation-clause-bound g c = rw (← c.self.view_is) c.evaluate.ensures.bound

pub returns-in_err-evaluation-clause-rest : goal.returns-in_err-evaluation-clause-rest
returns-in_err-evaluation-clause-rest g c = rw (← c.self.view_is) c.evaluate.ensures.rest

pub returns-in_err-answer-clause-bound : goal.returns-in_err-answer-clause-bound
returns-in_err-answer-clause-bound g c = rw (← c.self.view_is) c.evaluate.ensures.bound

pub returns-in_err-answer-clause-rest : goal.returns-in_err-answer-clause-rest
returns-in_err-answer-clause-rest g c = rw (← c.self.view_is) c.evaluate.ensures.rest

pub returns-in_err-group-clause-bound : goal.returns-in_err-group-clause-bound
returns-in_err-group-clause-bound g c = rw (← c.self.view_is) c.evaluate.ensures.bound

pub returns-in_err-group-clause-rest : goal.returns-in_err-group-clause-rest
returns-in_err-group-clause-rest g c = rw (← c.self.view_is) c.evaluate.ensures.rest

pub returns-clause-bound : goal.returns-clause-bound
returns-clause-bound g c = rw (← c.self.view_is) c.evaluate.ensures.bound

pub returns-clause-rest : goal.returns-clause-rest
returns-clause-rest g c = rw (← c.self.view_is) c.evaluate.ensures.rest

pub returns-clause-counted : goal.returns-clause-counted
returns-clause-counted g c = rw (← c.self.view_is) c.in_ok-evaluation.ensures.counted
