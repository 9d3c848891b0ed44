use Rattle.std.proofs.Common.{[], ◌∷◌, ◌++◌}
use Rattle.std.specs.List.{flat_map}
use Rattle.std.proofs.lemmas.Result.{IfOk-weaker}
use Rattle.ent_trace.specs.proofs_only.Path.{keys_of}
use Rattle.ent_walk.specs.Given.{finished}
use Rattle.ent_walk.specs.Node.{policy_key, policy_rules}
use Rattle.ent_walk.specs.Target.{target_part}
use Rattle.ent_walk.specs.proofs_only.Judged.{or_nothing}
use Rattle.memo_plan.specs.Heard.{came_of_rule}
use Rattle.memo_replay.specs.proofs_only.Stands.{looks_in, request_in}
use Rattle.memo_replay.proofs.Elements.{element_match, element_none, element_under}
use Rattle.memo_replay.proofs.over.Over.policy.Goals as goal

pub returns-in-NoMatch : goal.returns-in-NoMatch
returns-in-NoMatch g c =
    let over = c.args.self.now in
    let looks = looks_in g.L.LookUps.looks over in
    let request = request_in over in
    let policy = c.args.policy.now in
    let path = keys_of c.args.path.now in
    element_none over (policy_key policy) (target_part looks request policy.target) (policy_rules looks request path policy)
    (finished looks request policy.variables policy.given)
    (flat_map (came_of_rule looks request policy.variables (path ++ policy_key policy ∷ [])) policy.rules)
    c.args.state.now c.target.new.state (rw c.in-NoMatch.is at c.in_ok-target.ensures)

pub returns-in_ok-given-in-Match : goal.returns-in_ok-given-in-Match
returns-in_ok-given-in-Match g c =
    let over = c.args.self.now in
    let looks = looks_in g.L.LookUps.looks over in
    let request = request_in over in
    let policy = c.args.policy.now in
    let path = keys_of c.args.path.now in
    IfOk-weaker c.rules_of.result _ _ (λ a joins.
    element_match over (policy_key policy) (target_part looks request policy.target) (policy_rules looks request path policy)
    (finished looks request policy.variables policy.given)
    (flat_map (came_of_rule looks request policy.variables (path ++ policy_key policy ∷ [])) policy.rules)
    c.args.state.now c.target.new.state c.given.new.state c.rules_of.new.state (or_nothing a) (rw c.in-Match.is at c.in_ok-target.ensures)
    c.in_ok-given-in-Match.ensures.given c.in_ok-given-in-Match.ensures.heard joins) c.rules_of.ensures

pub returns-in_ok-answer-in-Indeterminate : goal.returns-in_ok-answer-in-Indeterminate
returns-in_ok-answer-in-Indeterminate g c =
    let over = c.args.self.now in
    let looks = looks_in g.L.LookUps.looks over in
    let request = request_in over in
    let policy = c.args.policy.now in
    let path = keys_of c.args.path.now in
    element_under over (policy_key policy) (target_part looks request policy.target) (policy_rules looks request path policy)
    (finished looks request policy.variables policy.given)
    (flat_map (came_of_rule looks request policy.variables (path ++ policy_key policy ∷ [])) policy.rules)
    c.in-Indeterminate.status c.args.state.now c.target.new.state c.given-in-Indeterminate.new.state c.rules_of-in-Indeterminate.new.state
    (or_nothing c.in_ok-answer-in-Indeterminate.answer) (or_nothing c.under.result) (rw c.in-Indeterminate.is at c.in_ok-target.ensures)
    c.in_ok-given-in-Indeterminate.ensures.given c.in_ok-given-in-Indeterminate.ensures.heard c.in_ok-answer-in-Indeterminate.ensures c.under.ensures
