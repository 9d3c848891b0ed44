-- The references of a document, each with where it stands (sections 5.10 and 5.11).
use Rattle.std.specs.Prelude.{ℕ, suc, List, [], ◌∷◌, ◌++◌}
use Rattle.ent_policy.specs.Children.{as_child}
use Rattle.ent_policy.specs.declared.document.Child.{Child}
use Rattle.ent_policy.specs.declared.document.Child.TheFolds.{fold-Child}
use Rattle.ent_policy.specs.declared.document.Child.TheOpen.{Child-F, PolicySet-F}
use Rattle.ent_policy.specs.declared.document.Tree.{Tree}
use Rattle.lint_links.specs.declared.placed.PlacedReference.{PlacedReference}

-- the references of a part, for each path that leads to it: the numbers of the children, from the document down
abbrev pub Below : Type 0
Below = List ℕ → List PlacedReference

-- those of some children, of which the first has this number in its set
abbrev pub numbered : ℕ → List Below → Below
numbered n [] path = []
numbered n (child ∷ others) path = child (path ++ n ∷ []) ++ numbered (suc n) others path

-- one level of a child
abbrev pub child_step : Child-F Below Below → Below
child_step (Child-F.Policy policy) path = []
child_step (Child-F.Set set) path = set path
child_step (Child-F.Reference reference) path = record { path = path; reference = reference } ∷ []

-- one level of a policy set
abbrev pub set_step : PolicySet-F Below Below → Below
set_step set path = numbered 0 set.children path

-- the references of a child and of the sets in it
abbrev pub references_below : Child → Below
references_below = fold-Child Below Below child_step set_step

-- the references of a document, in the order in which they stand
abbrev pub references_of : Tree → List PlacedReference
references_of document = references_below (as_child document) []
