use Rattle.std.proofs.Common.{refl}
use Rattle.ent_walk.specs.Target.{is_no_match, match_part}
use Rattle.ent_walk.specs.declared.target.Targeted.TheVariants as is
use Rattle.ent_walk.proofs.Parts.{came_from, keeps_on}
use Rattle.ent_walk.proofs.Targets.{isn't_no_match, next_so_far, other_than_no_match}
use Rattle.ent_walk.proofs.walk.Walk.all_matches.Goals as goal

pub loop-test-preserved : goal.loop-test-preserved
loop-test-preserved g c =
    let came = came_from g.L.LookUps.looks (λ looks request. match_part looks request c.test-item.result) c.args.self.now c.loop-test.self c.one_match.new.self c.in_ok-targeted.targeted c.loop-test.invariant.keeps c.in_ok-targeted.ensures.comes in
    record {
      so_far = next_so_far is_no_match is.Match (match_part (g.L.LookUps.looks c.args.self.now.lender.held) c.args.self.now.lender.request) c.args.matches.now other_than_no_match refl
          c.loop-test.test-index c.test-item.result c.loop-test.so_far c.in_ok-targeted.targeted c.first_of-so_far.result c.args.self.now.notes c.loop-test.self.notes c.one_match.new.self.notes
          c.loop-test-test.true c.test-item.is c.loop-test.invariant.so_far came.value came.notes (isn't_no_match c.in_ok-targeted.targeted c.in_default.not-NoMatch) c.first_of-so_far.ensures;
      keeps = keeps_on c.args.self.now c.loop-test.self c.one_match.new.self c.loop-test.invariant.keeps came.keeps;
    }
