use Rattle.std.proofs.Common.{◌-◌, ◌∙◌, Some, sym, ap, arith}
use Rattle.std.specs.Option.{option_copied}
use Rattle.ent_walk.proofs.Fit.{sound_fit}
use Rattle.ent_policy.specs.Children.{as_child}
use Rattle.ent_walk.specs.proofs_only.Hops.{child_target}
use Rattle.ent_request.specs.declared.question.Question.TheVariants.{Ref}
use Rattle.ent_walk.proofs.Hops.{target_followed}
use Rattle.ent_walk.proofs.Parts.{came_behind, comes_behind}
use Rattle.ent_walk.proofs.walk.Walk.reference_target.Goals as goal

pub tree_target-requires : goal.tree_target-requires
tree_target-requires g c = sound_fit c.tree.result.now c.tree.ensures.sound c.tree.ensures.typed

pub returns-in-Some : goal.returns-in-Some
returns-in-Some g c =
    let looks = g.L.LookUps.looks c.args.self.now.lender.held in
    let request = c.args.self.now.lender.request in
    let hops = c.args.hops in
    let tree = c.tree.result.now in
    let reference = c.args.reference.now in
    let asks = c.in_ok-look_up.ensures.notes in
    let found = sym c.in_ok-look_up.ensures.found ∙ ap option_copied c.in-Some.is ∙ ap Some (sym c.tree.ensures.same) in
    let same = target_followed looks request hops reference (omega (arith, c.if-hops-eq0.false)) tree found in
    let here = came_behind (λ t. t) g.L.LookUps.looks (λ looks request. child_target looks request (hops - 1) (as_child tree)) c.tree_target.result c.args.self.now c.look_up.new.self c.tree_target.new.self asks.keeps c.tree_target.ensures.comes in
    let came = comes_behind (λ t. t) c.tree_target.result (child_target looks request (hops - 1) (as_child tree)) _ (Ref reference) c.args.self.now c.look_up.new.self c.tree_target.new.self asks same here in
    record { comes = came }
