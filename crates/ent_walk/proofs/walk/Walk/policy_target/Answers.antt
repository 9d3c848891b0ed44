use Rattle.ent_walk.specs.Node.{policy_key}
use Rattle.ent_walk.specs.Target.{target_part}
use Rattle.ent_walk.proofs.Within.{came_within}
use Rattle.ent_walk.proofs.walk.Walk.policy_target.Goals as goal

pub returns : goal.returns
returns g c =
    let policy = c.args.policy.now in
    record {
      comes = came_within g.L.LookUps.looks (policy_key policy) (λ looks request. target_part looks request policy.target) c.args.self.now c.enter.new.self c.target.new.self c.leave.new.self c.in_ok-targeted.targeted
          c.in_ok-enter.ensures.notes c.in_ok-enter.ensures.keeps c.in_ok-targeted.ensures.comes c.leave.ensures.notes c.leave.ensures.keeps;
    }
