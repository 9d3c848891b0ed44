use Rattle.std.proofs.Common.{◌≡◌, ◌∷◌, [], Some, slice_get, sym, ap, subst, arith, refl, ◌∙◌}
use Rattle.std.specs.List.{AllByRecursion}
use Rattle.std.proofs.lemmas.Option.{slice_get-get_or}
use Rattle.std.proofs.lemmas.Result.{IfOk-weaker}
use Rattle.ent_values.specs.Bags.{Contents}
use Rattle.ent_request.specs.Sources.{asked_of, designated_values, values_of}
use Rattle.ent_walk.specs.declared.lender.FoundBag.{FoundBag}
use Rattle.ent_request.specs.declared.question.Asked.{Asked}
use Rattle.ent_walk.specs.proofs_only.Basis.{Basis}
use Rattle.ent_walk.specs.proofs_only.Lender.{IsFound}
use Rattle.ent_request.proofs.Lists.{all_append}
use Rattle.ent_request.proofs.Numbering.{all_at}
use Rattle.ent_walk.proofs.lender.Lender.bag.Goals as goal

pub returns-then-is_of-clause-bag : goal.returns-then-is_of-clause-bag
returns-then-is_of-clause-bag g c =
    let looks = g.L.LookUps.looks c.self.inside.held.now in
    let request = c.self.inside.request.now in
    let d = c.args.designator.now in
    let it = c.found-item.result in
    let all : AllByRecursion (IsFound looks request) c.deref-found-items.result.now = subst (AllByRecursion (IsFound looks request)) (sym c.deref-found-items.ensures.value) c.self.invariant in
    let at : slice_get c.deref-found-items.result.now c.loop-found.found-index ≡ Some it =
    slice_get-get_or c.deref-found-items.result.now c.loop-found.found-index it (omega (arith, c.loop-found-test.true)) ∙ ap Some (sym c.found-item.is) in
    let same : it.asked ≡ asked_of d = c.if-is_of.ensures.0 refl in
    let found : Asked → Contents = λ a. record { datatype = a.datatype; values = values_of looks request a } in
    let over : Basis g.row.L.Denot → Contents = λ b. record { datatype = d.datatype; values = designated_values (g.L.LookUps.looks b.held) b.request d } in
    IfOk-weaker c.copy.result _ _ (λ b is. is ∙ all_at (IsFound looks request) c.deref-found-items.result.now c.loop-found.found-index it all at ∙ ap found same ∙ ap over c.self.view_is) c.copy.ensures

pub invariant_of-self-in_ok-push : goal.invariant_of-self-in_ok-push
invariant_of-self-in_ok-push g c =
    let looks = g.L.LookUps.looks c.self.inside.held.now in
    let request = c.self.inside.request.now in
    let P = IsFound looks request in
    let found : Asked → Contents = λ a. record { datatype = a.datatype; values = values_of looks request a } in
    let next : FoundBag = record { asked = c.in_ok-asked.asked; bag = c.in_ok-copy.field-0 } in
    let this : P next = c.in_ok-copy.ensures ∙ c.in_ok-bag.ensures ∙ ap found (sym c.in_ok-asked.ensures) in
    subst (AllByRecursion P) (sym c.in_ok-push.ensures.items) (all_append P c.self.inside.found.items (next ∷ []) c.self.invariant (this, tt))
