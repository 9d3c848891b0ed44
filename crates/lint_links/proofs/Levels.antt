-- One level of the references of a document.
use Rattle.std.proofs.Common.{◌≡◌, List, ℕ, ap, ◌∙◌}
use Rattle.ent_policy.specs.declared.document.Child.TheFolds.{fold-roll-Child, fold_out-PolicySet}
use Rattle.ent_policy.specs.declared.document.Child.TheOpen.{Child-F}
use Rattle.ent_policy.specs.declared.document.Child.TheVariants as children
use Rattle.ent_policy.specs.declared.document.PolicySet.{PolicySet}
use Rattle.lint_links.specs.References.{Below, child_step, references_below, set_step}
use Rattle.lint_links.specs.proofs_only.Level.{references_in_set}

pub set_level : (set : PolicySet) (path : List ℕ) → references_below (children.Set set) path ≡ references_in_set set path
unfolding Rattle.ent_policy.specs.declared.document.Child.TheViews.roll-Child denote.Hole.Carrier.roll
set_level set path =
    ap (λ below. below path) (fold-roll-Child Below Below child_step set_step (Child-F.Set set))
    ∙ ap (λ below. below path) (fold_out-PolicySet Below Below child_step set_step set)
