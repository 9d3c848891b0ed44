use Rattle.std.proofs.lemmas.Result.{IfOk-weaker}
use Rattle.memo_replay.specs.proofs_only.Stands.{looks_in, request_in}
use Rattle.memo_replay.proofs.Ruling.{matched_decided, matched_spoiled, matched_without}
use Rattle.memo_replay.proofs.over.Over.next_matched.Goals as goal

pub returns-in-False : goal.returns-in-False
returns-in-False g c = λ definitions here.
    let over = c.args.self.now in
    matched_without over (looks_in g.L.LookUps.looks over) (request_in over) definitions here c.args.rule.now
    c.args.state.now c.condition.new.state c.args.gathering.now c.pass.new.self c.pass.result _ c.in-False.is c.in_ok-condition.ensures
    c.pass.ensures.gathered c.pass.ensures.progress

pub returns-in-Indeterminate : goal.returns-in-Indeterminate
returns-in-Indeterminate g c =
    let over = c.args.self.now in
    IfOk-weaker c.spoiled.result _ _ (λ p by definitions here.
    matched_spoiled over (looks_in g.L.LookUps.looks over) (request_in over) definitions here c.args.rule.now
    c.args.state.now c.condition.new.state c.args.gathering.now c.spoiled.new.gathering p _ c.in-Indeterminate.status c.in-Indeterminate.is c.in_ok-condition.ensures
    (by here).0 (by here).1) c.spoiled.ensures

pub returns-in_ok-take-in-True : goal.returns-in_ok-take-in-True
returns-in_ok-take-in-True g c = λ definitions here.
    let over = c.args.self.now in
    matched_decided over (looks_in g.L.LookUps.looks over) (request_in over) definitions here c.args.rule.now
    c.args.state.now c.condition.new.state c.args.gathering.now c.take.new.self _ c.decided.new.state _ c.in_ok-answer-in-True.answer c.in-True.is
    c.in_ok-condition.ensures c.in_ok-answer-in-True.ensures c.in_ok-take-in-True.ensures.gathered c.in_ok-take-in-True.ensures.progress
