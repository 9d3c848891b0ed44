use Rattle.std.proofs.Common.{[], ◌∷◌, ◌++◌, sym, ◌∙◌}
use Rattle.std.proofs.lemmas.Result.{on_ok_weaker}
use Rattle.std.specs.List.{flat_map}
use Rattle.ent_walk.specs.Given.{finished}
use Rattle.ent_walk.specs.Node.{policy_key}
use Rattle.ent_walk.specs.Target.{target_part}
use Rattle.memo_plan.specs.Heard.{came_of_rule, heard}
use Rattle.memo_replay.proofs.Passed.{element_passed, element_unmatched}
use Rattle.memo_replay.proofs.over.Over.pass_policy.Goals as goal

pub returns-then-is_no_match-clause-passes : goal.returns-then-is_no_match-clause-passes
returns-then-is_no_match-clause-passes g c w path p count =
    element_unmatched c.args.self.now c.args.state.now c.pass.new.state c.in_ok-pass.field-0.now
    (heard (target_part w.looks w.request p.target)) (λ a. heard (finished w.looks w.request p.variables p.given a))
    (flat_map (came_of_rule w.looks w.request p.variables (path ++ policy_key p ∷ [])) p.rules)
    c.in_ok-pass.ensures.next (λ t k e. sym c.if-is_no_match.true ∙ c.is_no_match.ensures t k e)

pub returns-clause-passes : goal.returns-clause-passes
returns-clause-passes g c =
    on_ok_weaker c.pass_rules.result
    (λ passes w path p count.
    let here = path ++ policy_key p ∷ [] in
    element_passed c.args.self.now c.args.state.now c.pass.new.state c.given.new.state c.pass_rules.new.state c.in_ok-pass.field-0.now
    (heard (target_part w.looks w.request p.target)) (λ a. heard (finished w.looks w.request p.variables p.given a))
    (flat_map (came_of_rule w.looks w.request p.variables here) p.rules)
    c.in_ok-pass.ensures.next (λ t k e. sym c.if-is_no_match.false ∙ c.is_no_match.ensures t k e)
    c.in_ok-given.ensures.given (passes w p.variables here p.rules count))
    c.pass_rules.ensures.passes
