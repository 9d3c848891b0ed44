use Rattle.std.proofs.Common.{Some, sym, ap, ◌∙◌}
use Rattle.std.proofs.lemmas.Result.{IfOk-weaker}
use Rattle.std.specs.Option.{option_copied}
use Rattle.ent_policy.specs.Children.{as_child}
use Rattle.ent_request.specs.declared.question.Question.TheVariants.{Ref}
use Rattle.ent_walk.specs.proofs_only.Hops.{child_part}
use Rattle.ent_walk.specs.proofs_only.Opened.{left_part}
use Rattle.ent_walk.proofs.Fit.{sound_fit}
use Rattle.ent_walk.proofs.Hops.{followed_found}
use Rattle.ent_walk.proofs.Left.{leaves_kept, left_behind_look}
use Rattle.ent_walk.proofs.Shallow.{shallow_tree}
use Rattle.ent_walk.proofs.walk.Walk.open_followed.Goals as goal

pub open_tree-requires-clause-fit : goal.open_tree-requires-clause-fit
open_tree-requires-clause-fit g c = sound_fit c.tree.result.now c.tree.ensures.sound c.tree.ensures.typed

pub open_tree-requires-clause-shallow : goal.open_tree-requires-clause-shallow
open_tree-requires-clause-shallow g c = shallow_tree c.tree.result.now c.tree.ensures.sound

pub returns-in-Some-clause-left : goal.returns-in-Some-clause-left
returns-in-Some-clause-left g c =
    let looks = g.L.LookUps.looks c.args.self.now.lender.held in
    let request = c.args.self.now.lender.request in
    let hops = c.args.hops in
    let tree = c.tree.result.now in
    let reference = c.args.reference.now in
    let start = c.args.self.now in
    let between = c.look_up.new.self in
    let asks = c.in_ok-look_up.ensures.notes in
    let found = sym c.in_ok-look_up.ensures.found ∙ ap option_copied c.in-Some.is ∙ ap Some (sym c.tree.ensures.same) in
    IfOk-weaker c.open_tree.result _ _ (λ o left path. left_behind_look (child_part looks request hops path (as_child tree)) _ (left_part looks request path o) (Ref reference) start.notes between.notes c.open_tree.new.self.notes
    asks.notes (followed_found looks request hops reference tree found path)
    (leaves_kept g.L.LookUps.looks (λ looks request path. child_part looks request hops path (as_child tree)) start between between.notes c.open_tree.new.self.notes o asks.keeps left path)) c.open_tree.ensures.left
