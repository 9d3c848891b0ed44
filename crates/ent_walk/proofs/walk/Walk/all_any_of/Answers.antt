use Rattle.std.proofs.Common.{refl}
use Rattle.ent_walk.specs.Target.{is_no_match, any_of_part}
use Rattle.ent_walk.specs.declared.target.Targeted.TheVariants as is
use Rattle.ent_walk.proofs.Parts.{came_from, keeps_on}
use Rattle.ent_walk.proofs.Targets.{isn't_no_match, next_so_far, other_than_no_match}
use Rattle.ent_walk.proofs.walk.Walk.all_any_of.Goals as goal

pub loop-element-preserved : goal.loop-element-preserved
loop-element-preserved g c =
    let came = came_from g.L.LookUps.looks (λ looks request. any_of_part looks request c.element-item.result) c.args.self.now c.loop-element.self c.any_of.new.self c.in_ok-targeted.targeted c.loop-element.invariant.keeps c.in_ok-targeted.ensures.comes in
    record {
      so_far = next_so_far is_no_match is.Match (any_of_part (g.L.LookUps.looks c.args.self.now.lender.held) c.args.self.now.lender.request) c.args.all.now other_than_no_match refl
          c.loop-element.element-index c.element-item.result c.loop-element.so_far c.in_ok-targeted.targeted c.first_of-so_far.result c.args.self.now.notes c.loop-element.self.notes c.any_of.new.self.notes
          c.loop-element-test.true c.element-item.is c.loop-element.invariant.so_far came.value came.notes (isn't_no_match c.in_ok-targeted.targeted c.in_default.not-NoMatch) c.first_of-so_far.ensures;
      keeps = keeps_on c.args.self.now c.loop-element.self c.any_of.new.self c.loop-element.invariant.keeps came.keeps;
    }
