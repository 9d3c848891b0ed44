use Rattle.ent_walk.specs.proofs_only.Node.{policy_after, policy_target}
use Rattle.ent_walk.proofs.Left.{left_behind}
use Rattle.ent_walk.proofs.walk.Walk.open_policy.Goals as goal

pub returns-clause-left : goal.returns-clause-left
returns-clause-left g c = λ path.
    let looks = g.L.LookUps.looks c.args.self.now.lender.held in
    let request = c.args.self.now.lender.request in
    left_behind (policy_after looks request path c.args.policy.now) (policy_target looks request c.args.policy.now) c.in_ok-targeted.targeted c.args.self.now.notes c.policy_target.new.self.notes c.in_ok-targeted.ensures.comes.value c.in_ok-targeted.ensures.comes.notes
