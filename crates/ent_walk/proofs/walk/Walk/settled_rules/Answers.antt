use Rattle.ent_trace.specs.proofs_only.Path.{keys_of}
use Rattle.ent_walk.specs.Judged.{has_failed}
use Rattle.ent_walk.specs.Node.{policy_rules}
use Rattle.ent_walk.specs.proofs_only.Judged.{or_nothing}
use Rattle.ent_walk.proofs.Settled.{came_settled}
use Rattle.ent_walk.proofs.walk.Walk.settled_rules.Goals as goal

pub returns : goal.returns
returns g c =
    let rules = policy_rules (g.L.LookUps.looks c.args.self.now.lender.held) c.args.self.now.lender.request
    (keys_of c.args.path.now) c.args.policy.now in
    record {
      comes = came_settled has_failed rules c.args.self.now c.rules_under.new.self c.settle.new.self
          (or_nothing c.in_ok-answer.answer) c.is_named-was_named.result c.has_failed.result c.is_named-was_named.ensures
          c.has_failed.ensures c.in_ok-answer.ensures.comes c.settle.ensures.notes c.settle.ensures.keeps;
    }
