-- The references of documents.
use Rattle.std.proofs.Common.{◌≡◌, ℕ, zero, suc, Option, List, [], ◌∷◌, map, sym, ap, ◌∙◌}
use Rattle.std.specs.List.{flat_map}
use Rattle.std.specs.FinMap.{get, get-empty}
use Rattle.std.specs.Option.{option_flatten, option_map_or}
use Rattle.ent_policy.specs.Children.{as_child}
use Rattle.ent_policy.specs.declared.document.Child.TheFolds.{fold-roll-Child, fold_out-PolicySet}
use Rattle.ent_policy.specs.declared.document.Child.TheOpen.{Child-F}
use Rattle.ent_policy.specs.declared.document.Policy.{Policy}
use Rattle.ent_policy.specs.declared.document.PolicySet.{PolicySet}
use Rattle.ent_policy.specs.declared.document.Tree.{Tree}
use Rattle.ent_policy.specs.declared.document.Tree.TheVariants as trees
use Rattle.ent_policy.specs.declared.key.DocKey.{DocKey}
use Rattle.ent_policy.specs.declared.key.Reference.{Reference}
use Rattle.ent_finder.proofs.Held.{get-held}
use Rattle.ent_finder.specs.Slots.{Slots, document_at, held, key_cmp, module_at}
use Rattle.lint_reach.specs.Reached.{child_step, references_at, references_in, set_step}
use Rattle.lint_reach.specs.declared.place.DocPlace.{DocPlace}

-- ---- the document at a place

pub document_held : (slots : List Slots) (number : ℕ) (key : DocKey) → get (module_at (map held slots) number) key ≡ document_at (module_at slots number) key
document_held [] number key = get-empty key_cmp key ∙ sym (ap option_flatten (get-empty key_cmp key))
document_held (s ∷ slots) zero key = get-held s key
document_held (s ∷ slots) (suc number) key = document_held slots number key

-- its references
pub references_there : (slots : List Slots) (place : DocPlace) (document : Option Tree) → document ≡ document_at (module_at slots place.number) place.key
    → references_at (map held slots) place ≡ option_map_or (λ d. references_in (as_child d)) document []
references_there slots place document is =
    ap (λ d. option_map_or (λ t. references_in (as_child t)) d []) (document_held slots place.number place.key ∙ sym is)

-- those of a policy are none, those of a set those of its children
pub of_policy : (tree : Tree) (policy : Policy) → tree ≡ trees.Policy policy → references_in (as_child tree) ≡ []
unfolding Rattle.ent_policy.specs.declared.document.Child.TheViews.roll-Child denote.Hole.Carrier.roll
of_policy tree policy is =
    ap (λ t. references_in (as_child t)) is ∙ fold-roll-Child (List Reference) (List Reference) child_step set_step (Child-F.Policy policy)

pub of_set : (tree : Tree) (set : PolicySet) → tree ≡ trees.Set set → references_in (as_child tree) ≡ flat_map (λ rs. rs) (map references_in set.children)
unfolding Rattle.ent_policy.specs.declared.document.Child.TheViews.roll-Child denote.Hole.Carrier.roll
of_set tree set is =
    ap (λ t. references_in (as_child t)) is ∙ fold-roll-Child (List Reference) (List Reference) child_step set_step (Child-F.Set set)
    ∙ fold_out-PolicySet (List Reference) (List Reference) child_step set_step set
