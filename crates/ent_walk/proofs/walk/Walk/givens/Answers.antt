use Rattle.std.proofs.Common.{refl, sym, ap, ◌∙◌, arith}
use Rattle.ent_walk.specs.Given.{given_part}
use Rattle.ent_walk.specs.proofs_only.Given.{added}
use Rattle.std.specs.Prelude.{Ok}
use Rattle.ent_walk.specs.Given.{joined}
use Rattle.ent_trace.specs.proofs_only.Noted.{noting}
use Rattle.ent_request.specs.declared.request.Request.{Request}
use Rattle.ent_request.specs.Looks.{Looks}
use Rattle.ent_walk.proofs.Parts.{kept, keeps_on}
use Rattle.ent_walk.proofs.Giving.{gives_on, starts, stopped-notes, stopped-value, whole-notes, whole-value}
use Rattle.ent_walk.proofs.walk.Walk.givens.Goals as goal

pub loop-expression-init : goal.loop-expression-init
loop-expression-init g c =
    record { giving = starts (given_part (g.L.LookUps.looks c.args.self.now.lender.held) c.args.self.now.lender.request c.args.due.definitions.now c.args.due.effect) c.args.expressions.now c.in_ok-givens.givens c.args.self.now.notes c.in_ok-givens.ensures; keeps = record { held = refl; request = refl } }

pub loop-expression-preserved : goal.loop-expression-preserved
loop-expression-preserved g c =
    let meaning = λ (looks : Looks) (request : Request). given_part looks request c.args.due.definitions.now c.args.due.effect c.expression-item.result in
    let same = kept g.L.LookUps.looks meaning c.args.self.now c.loop-expression.self c.loop-expression.invariant.keeps in
    let keeps = keeps_on c.args.self.now c.loop-expression.self c.give.new.self c.loop-expression.invariant.keeps c.in_ok-stopped.ensures.notes.keeps in
    record {
      keeps = keeps;
      giving = gives_on (given_part (g.L.LookUps.looks c.args.self.now.lender.held) c.args.self.now.lender.request c.args.due.definitions.now c.args.due.effect) c.args.expressions.now c.loop-expression.expression-index c.loop-expression.givens
          c.args.self.now.notes c.loop-expression.self.notes c.loop-expression.invariant.giving c.expression-item.result c.give.new.givens c.give.new.self.notes c.loop-expression-test.true c.expression-item.is
          (ap (added c.give.new.givens) (sym c.in_default.is) ∙ c.in_ok-stopped.ensures.value ∙ ap (λ p. joined (Ok c.loop-expression.givens) p.value) same) (c.in_ok-stopped.ensures.notes.notes ∙ ap (λ p. noting c.loop-expression.self.notes p.notes) same);
    }

pub returns-in-Some : goal.returns-in-Some
returns-in-Some g c =
    let meaning = λ (looks : Looks) (request : Request). given_part looks request c.args.due.definitions.now c.args.due.effect c.expression-item.result in
    let same = kept g.L.LookUps.looks meaning c.args.self.now c.loop-expression.self c.loop-expression.invariant.keeps in
    let keeps = keeps_on c.args.self.now c.loop-expression.self c.give.new.self c.loop-expression.invariant.keeps c.in_ok-stopped.ensures.notes.keeps in
    record {
      comes = record {
        value = stopped-value (given_part (g.L.LookUps.looks c.args.self.now.lender.held) c.args.self.now.lender.request c.args.due.definitions.now c.args.due.effect) c.args.expressions.now c.loop-expression.expression-index c.loop-expression.givens
            c.args.self.now.notes c.loop-expression.self.notes c.loop-expression.invariant.giving c.expression-item.result c.in-Some.status c.loop-expression-test.true c.expression-item.is
            (ap (added c.give.new.givens) (sym c.in-Some.is) ∙ c.in_ok-stopped.ensures.value ∙ ap (λ p. joined (Ok c.loop-expression.givens) p.value) same);
        keeps = keeps;
        notes = stopped-notes (given_part (g.L.LookUps.looks c.args.self.now.lender.held) c.args.self.now.lender.request c.args.due.definitions.now c.args.due.effect) c.args.expressions.now c.loop-expression.expression-index c.loop-expression.givens
            c.args.self.now.notes c.loop-expression.self.notes c.loop-expression.invariant.giving c.expression-item.result c.in-Some.status c.give.new.self.notes c.loop-expression-test.true c.expression-item.is
            (ap (added c.give.new.givens) (sym c.in-Some.is) ∙ c.in_ok-stopped.ensures.value ∙ ap (λ p. joined (Ok c.loop-expression.givens) p.value) same) (c.in_ok-stopped.ensures.notes.notes ∙ ap (λ p. noting c.loop-expression.self.notes p.notes) same);
      };
    }

pub returns : goal.returns
returns g c =
    record {
      comes = record {
        value = whole-value (given_part (g.L.LookUps.looks c.args.self.now.lender.held) c.args.self.now.lender.request c.args.due.definitions.now c.args.due.effect) c.args.expressions.now c.loop-expression.expression-index c.loop-expression.givens
            c.args.self.now.notes c.loop-expression.self.notes c.loop-expression.invariant.giving (omega (arith, c.loop-expression-test.false));
        keeps = c.loop-expression.invariant.keeps;
        notes = whole-notes (given_part (g.L.LookUps.looks c.args.self.now.lender.held) c.args.self.now.lender.request c.args.due.definitions.now c.args.due.effect) c.args.expressions.now c.loop-expression.expression-index c.loop-expression.givens
            c.args.self.now.notes c.loop-expression.self.notes c.loop-expression.invariant.giving (omega (arith, c.loop-expression-test.false));
      };
    }
