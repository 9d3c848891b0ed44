use Rattle.std.proofs.Common.{◌≡◌, ◌∷◌, [], ◌∙◌, ap, refl, subst, sym}
use Rattle.std.specs.Prelude.{IfSome}
use Rattle.ent_request.specs.Part.{Part}
use Rattle.ent_request.specs.Sources.{designated_values}
use Rattle.ent_walk.specs.declared.evaluated.Evaluated.{Evaluated}
use Rattle.ent_walk.specs.declared.walk.Walk.{Walk}
use Rattle.ent_walk.specs.proofs_only.Comes.{Comes}
use Rattle.ent_walk.specs.proofs_only.Uncopied.{only_part}
use Rattle.ent_walk.proofs.Literals.{only-found}
use Rattle.ent_walk.proofs.walk.Walk.only.Goals as goal

-- what came of a part came of an equal one
came_of : {L : Type 0} (before after : Walk L) (came : Evaluated) (p q : Part Evaluated) → q ≡ p → Comes p before after came → Comes q before after came
came_of before after came p q same is = subst (λ r. Comes r before after came) (sym same) is

pub returns-clause-comes : goal.returns-clause-comes
returns-clause-comes g c = λ e.
    let looks = g.L.LookUps.looks c.args.self.now.lender.held in
    let request = c.args.self.now.lender.request in
    let d = c.args.designator.now in
    let v = c.in-Some.value in
    let found : designated_values looks request d ≡ v ∷ [] =
    ap (λ b. b.values) (sym c.in_ok-bag.ensures.bag) ∙ subst (λ o. IfSome o (λ w. c.in_ok-bag.bag.values ≡ w ∷ [])) c.in-Some.is c.in_ok-only_in.ensures.value in
    came_of c.args.self.now _ _ (only_part d v) _ (only-found looks request [] 0 e d v found) (record {
      value = refl;
      notes = c.in_ok-note_values-in-Some.ensures;
      keeps = record { held = ap (λ b. b.held) c.in_ok-bag.ensures.same; request = ap (λ b. b.request) c.in_ok-bag.ensures.same };
    })
