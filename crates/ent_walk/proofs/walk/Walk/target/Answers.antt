use Rattle.std.proofs.Common.{map, subst}
use Rattle.ent_walk.specs.Target.{all_part, any_of_part, is_indeterminate}
use Rattle.ent_walk.specs.proofs_only.Comes.{Comes}
use Rattle.ent_walk.proofs.Settled.{came_settled}
use Rattle.ent_walk.proofs.walk.Walk.target.Goals as goal

pub returns : goal.returns
returns g c =
    let part = any_of_part (g.L.LookUps.looks c.args.self.now.lender.held) c.args.self.now.lender.request in
    let came = subst (λ xs. Comes (all_part (map part xs)) c.args.self.now c.all_any_of.new.self c.in_ok-targeted.targeted)
    c.as_slice.ensures c.in_ok-targeted.ensures.comes in
    record {
      comes = came_settled is_indeterminate (all_part (map part c.args.target.now.any_of)) c.args.self.now
          c.all_any_of.new.self c.settle.new.self c.in_ok-targeted.targeted c.is_named-was_named.result c.is_indeterminate.result
          c.is_named-was_named.ensures c.is_indeterminate.ensures came c.settle.ensures.notes c.settle.ensures.keeps;
    }
