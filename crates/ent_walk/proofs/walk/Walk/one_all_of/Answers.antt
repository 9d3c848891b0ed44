use Rattle.std.proofs.Common.{refl}
use Rattle.ent_walk.specs.Target.{all_of_part, is_match}
use Rattle.ent_walk.specs.declared.target.Targeted.TheVariants as is
use Rattle.ent_walk.proofs.Parts.{came_from, keeps_on}
use Rattle.ent_walk.proofs.Targets.{isn't_match, next_so_far, other_than_match}
use Rattle.ent_walk.proofs.walk.Walk.one_all_of.Goals as goal

pub loop-alternative-preserved : goal.loop-alternative-preserved
loop-alternative-preserved g c =
    let came = came_from g.L.LookUps.looks (λ looks request. all_of_part looks request c.alternative-item.result) c.args.self.now c.loop-alternative.self c.all_of.new.self c.in_ok-targeted.targeted c.loop-alternative.invariant.keeps c.in_ok-targeted.ensures.comes in
    record {
      so_far = next_so_far is_match is.NoMatch (all_of_part (g.L.LookUps.looks c.args.self.now.lender.held) c.args.self.now.lender.request) c.args.alternatives.now other_than_match refl
          c.loop-alternative.alternative-index c.alternative-item.result c.loop-alternative.so_far c.in_ok-targeted.targeted c.first_of-so_far.result c.args.self.now.notes c.loop-alternative.self.notes c.all_of.new.self.notes
          c.loop-alternative-test.true c.alternative-item.is c.loop-alternative.invariant.so_far came.value came.notes (isn't_match c.in_ok-targeted.targeted c.in_default.not-Match) c.first_of-so_far.ensures;
      keeps = keeps_on c.args.self.now c.loop-alternative.self c.all_of.new.self c.loop-alternative.invariant.keeps came.keeps;
    }
