use Rattle.std.proofs.lemmas.Result.{IfOk-weaker}
use Rattle.memo_replay.specs.proofs_only.Stands.{looks_in, request_in}
use Rattle.memo_replay.proofs.Ruling.{rule_with_match, rule_with_spoiled, rule_without_match}
use Rattle.memo_replay.proofs.over.Over.next_rule.Goals as goal

pub returns-in-NoMatch : goal.returns-in-NoMatch
returns-in-NoMatch g c = λ definitions here.
    let over = c.args.self.now in
    rule_without_match over (looks_in g.L.LookUps.looks over) (request_in over) definitions here c.args.rule.now
    c.args.state.now c.target.new.state c.args.gathering.now c.pass.new.self c.pass.result _ c.in-NoMatch.is c.in_ok-target.ensures
    c.pass.ensures.gathered c.pass.ensures.progress

pub returns-in-Indeterminate : goal.returns-in-Indeterminate
returns-in-Indeterminate g c =
    let over = c.args.self.now in
    IfOk-weaker c.spoiled.result _ _ (λ p by definitions here.
    rule_with_spoiled over (looks_in g.L.LookUps.looks over) (request_in over) definitions here c.args.rule.now
    c.args.state.now c.target.new.state c.args.gathering.now c.spoiled.new.gathering p _ c.in-Indeterminate.status c.in-Indeterminate.is c.in_ok-target.ensures
    (by here).0 (by here).1) c.spoiled.ensures

pub returns-in-Match : goal.returns-in-Match
returns-in-Match g c =
    let over = c.args.self.now in
    IfOk-weaker c.next_matched.result _ _ (λ p by definitions here.
    rule_with_match over (looks_in g.L.LookUps.looks over) (request_in over) definitions here c.args.rule.now
    c.args.state.now c.target.new.state c.args.gathering.now c.next_matched.new.gathering p c.next_matched.new.state _ c.in-Match.is c.in_ok-target.ensures
    (by definitions here)) c.next_matched.ensures
