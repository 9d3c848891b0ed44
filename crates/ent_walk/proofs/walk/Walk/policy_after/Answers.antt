use Rattle.ent_walk.specs.Node.{policy_key}
use Rattle.ent_walk.specs.proofs_only.Judged.{or_nothing}
use Rattle.ent_walk.specs.proofs_only.Node.{in_policy}
use Rattle.ent_trace.specs.proofs_only.Path.{keys_of}
use Rattle.ent_walk.proofs.Within.{came_within}
use Rattle.ent_walk.proofs.walk.Walk.policy_after.Goals as goal

pub returns : goal.returns
returns g c =
    let policy = c.args.policy.now in
    record {
      comes = came_within g.L.LookUps.looks (policy_key policy) (λ looks request. in_policy looks request (keys_of c.args.path.now) policy c.args.targeted) c.args.self.now c.enter.new.self c.in_policy.new.self c.leave.new.self
          (or_nothing c.in_ok-answer.answer) c.in_ok-enter.ensures.notes c.in_ok-enter.ensures.keeps c.in_ok-answer.ensures.comes c.leave.ensures.notes c.leave.ensures.keeps;
    }
