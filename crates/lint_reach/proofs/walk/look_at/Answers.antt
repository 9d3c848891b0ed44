use Rattle.std.proofs.Common.{◌≡◌, ◌∙◌, [], Some, None, OnOk, ap, map, subst, sym}
use Rattle.std.specs.Option.{option_copied}
use Rattle.ent_finder.specs.Slots.{held}
use Rattle.ent_policy.specs.Children.{as_child}
use Rattle.lint_reach.specs.Reached.{references_at, references_in}
use Rattle.lint_reach.specs.proofs_only.Search.{Leads}
use Rattle.lint_reach.proofs.Searching.{leads_nowhere, leads_same}
use Rattle.lint_reach.proofs.Walks.{of_policy, of_set, references_there}
use Rattle.lint_reach.proofs.walk.look_at.Goals as goal

pub returns-in-None : goal.returns-in-None
returns-in-None g c =
    let slots = g.P.Policies.slots c.args.policies.now in
    let none : references_at (map held slots) c.args.place.now ≡ [] =
    references_there slots c.args.place.now None (ap option_copied (sym c.in-None.is) ∙ c.document_at.ensures) in
    leads_same (map held slots) _ _ _ _ (sym none) (leads_nowhere (map held slots) c.args.search.now c.requires)

pub returns-in-Policy : goal.returns-in-Policy
returns-in-Policy g c =
    let slots = g.P.Policies.slots c.args.policies.now in
    let there = references_there slots c.args.place.now (Some c.in-Some.document.now) (ap option_copied (sym c.in-Some.is) ∙ c.document_at.ensures) in
    let none : references_at (map held slots) c.args.place.now ≡ [] =
    there ∙ ap (λ t. references_in (as_child t)) (sym c.tree.ensures.same) ∙ of_policy _ _ c.in-Policy.is in
    leads_same (map held slots) _ _ _ _ (sym none) (leads_nowhere (map held slots) c.args.search.now c.requires)

pub returns-in-Set : goal.returns-in-Set
returns-in-Set g c =
    let slots = g.P.Policies.slots c.args.policies.now in
    let there = references_there slots c.args.place.now (Some c.in-Some.document.now) (ap option_copied (sym c.in-Some.is) ∙ c.document_at.ensures) in
    let all = there ∙ ap (λ t. references_in (as_child t)) (sym c.tree.ensures.same) ∙ of_set _ c.in-Set.set c.in-Set.is in
    subst (λ rs. OnOk c.look_in_children.result (Leads (map held slots) rs c.args.search.now c.look_in_children.new.search)) (sym all)
    (rw c.as_slice.ensures at c.look_in_children.ensures)
