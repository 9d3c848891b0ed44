use Rattle.std.proofs.Common.{ap, sym, subst}
use Rattle.ent_eval.specs.LooksOf.{looks_of}
use Rattle.ent_eval.specs.Point.{Point}
use Rattle.ent_evaluator.specs.Memory.{Remembers}
use Rattle.ent_evaluator.proofs.Swapping.{row_leaves, slots_leave}
use Rattle.ent_evaluator.proofs.parts.EvaluatorParts.exchange.Goals as goal

pub returns-in-Document-clause-knows : goal.returns-in-Document-clause-knows
returns-in-Document-clause-knows g c =
    let old = c.args.self.now in
    let new = c.exchange_document.new.self in
    let rest = c.exchange_document.ensures.rest in
    let leaves = slots_leave (record old { memory = c.forget_documents.new.self }) new rest in
    λ known. subst (λ v. Remembers (looks_of new.pdp) v.questions v.memory) (sym rest)
    (c.forget_documents.ensures (looks_of old.pdp) (looks_of new.pdp) old.questions leaves known)

pub returns-in-Row-clause-knows : goal.returns-in-Row-clause-knows
returns-in-Row-clause-knows g c =
    let old = c.args.self.now in
    let new = c.exchange_row.new.self in
    let done = c.exchange_row.ensures in
    let leaves = row_leaves (record old { memory = c.forget_name.new.self }) new c.in-Row.number c.in-Row.key
    c.in-Row.values c.exchange_row.result done.swapped done.kept in
    λ known. subst (λ v. Remembers (looks_of new.pdp) v.questions v.memory) (sym done.rest)
    (c.forget_name.ensures (looks_of old.pdp) (looks_of new.pdp) old.questions leaves known)

pub returns-in-Root-clause-knows : goal.returns-in-Root-clause-knows
returns-in-Root-clause-knows g c =
    let old = c.args.self.now in
    let new = c.set_root-before.new.self in
    λ known. c.forget_documents-in-Root.ensures (looks_of old.pdp) (looks_of new) old.questions
    (λ key. ap (λ (p : Point). (looks_of p).values key) c.set_root-before.ensures.new) known

pub returns-in-Environment-clause-knows : goal.returns-in-Environment-clause-knows
returns-in-Environment-clause-knows g c =
    let old = c.args.self.now in
    let new = c.set_environment-before.new.self in
    λ known. c.forget_documents-in-Environment.ensures (looks_of old.pdp) (looks_of new) old.questions
    (λ key. ap (λ (p : Point). (looks_of p).values key) c.set_environment-before.ensures.new) known
