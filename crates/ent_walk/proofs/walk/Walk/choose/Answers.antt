use Rattle.std.proofs.Common.{[], ◌∷◌, ◌++◌, ◌∙◌, ap, refl, subst}
use Rattle.ent_combine.specs.Choose.{HasSeen, progress_at_target}
use Rattle.ent_walk.specs.proofs_only.Hops.{child_target}
use Rattle.ent_walk.proofs.Choices.{next_choice, room, stop_comes}
use Rattle.ent_walk.proofs.Parts.{came_from, keeps_on}
use Rattle.ent_walk.proofs.walk.Walk.choose.Goals as goal

pub take-requires : goal.take-requires
take-requires g c =
    room (child_target (g.L.LookUps.looks c.args.self.now.lender.held) c.args.self.now.lender.request c.args.hops) c.args.children.now c.loop-child.child-index c.loop-child.chooser c.args.self.now.notes c.loop-child.self.notes c.loop-child.invariant.choosing
    c.loop-child-test.true c.requires.room

pub returns-in-Stop : goal.returns-in-Stop
returns-in-Stop g c =
    let came = came_from g.L.LookUps.looks (λ looks request. child_target looks request c.args.hops c.child-item.result) c.args.self.now c.loop-child.self c.target_of.new.self c.in_ok-targeted.targeted c.loop-child.invariant.keeps c.in_ok-targeted.ensures.comes in
    let keeps = keeps_on c.args.self.now c.loop-child.self c.target_of.new.self c.loop-child.invariant.keeps came.keeps in
    record {
      comes = stop_comes (child_target (g.L.LookUps.looks c.args.self.now.lender.held) c.args.self.now.lender.request c.args.hops) c.args.children.now c.loop-child.child-index c.loop-child.chooser c.args.self.now.notes c.loop-child.self.notes c.loop-child.invariant.choosing c.child-item.result c.in_ok-targeted.targeted c.take.new.self c.take.result c.target_of.new.self.notes
          c.loop-child-test.true c.child-item.is came.value came.notes
          (λ ts has. subst (λ r. HasSeen c.take.new.self (ts ++ r ∷ [])) c.result_of.ensures (c.take.ensures.seen ts has)) (λ ts has. c.take.ensures.progress ts has ∙ ap (progress_at_target ts) c.result_of.ensures)
          c.spoiled.result c.args.self.now c.target_of.new.self c.spoiled.new.self refl refl keeps c.in-Stop.is c.spoiled.ensures.value c.spoiled.ensures.notes;
    }

pub loop-child-preserved : goal.loop-child-preserved
loop-child-preserved g c =
    let came = came_from g.L.LookUps.looks (λ looks request. child_target looks request c.args.hops c.child-item.result) c.args.self.now c.loop-child.self c.target_of.new.self c.in_ok-targeted.targeted c.loop-child.invariant.keeps c.in_ok-targeted.ensures.comes in
    let keeps = keeps_on c.args.self.now c.loop-child.self c.target_of.new.self c.loop-child.invariant.keeps came.keeps in
    let next = next_choice (child_target (g.L.LookUps.looks c.args.self.now.lender.held) c.args.self.now.lender.request c.args.hops) c.args.children.now c.loop-child.child-index c.loop-child.chooser c.args.self.now.notes c.loop-child.self.notes c.loop-child.invariant.choosing c.child-item.result c.in_ok-targeted.targeted c.take.new.self c.take.result c.target_of.new.self.notes
    c.loop-child-test.true c.child-item.is came.value came.notes
    (λ ts has. subst (λ r. HasSeen c.take.new.self (ts ++ r ∷ [])) c.result_of.ensures (c.take.ensures.seen ts has)) (λ ts has. c.take.ensures.progress ts has ∙ ap (progress_at_target ts) c.result_of.ensures) c.in_default.is in
    record { choosing = next; keeps = keeps }
