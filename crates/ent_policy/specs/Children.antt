-- A document as a child of a set.
use Rattle.ent_policy.specs.declared.document.Child.{Child}
use Rattle.ent_policy.specs.declared.document.Child.TheVariants as child
use Rattle.ent_policy.specs.declared.document.Tree.{Tree}
use Rattle.ent_policy.specs.declared.document.Tree.TheVariants.{Policy, Set}

-- what is said of the children of sets is said of a document as such a child
abbrev pub as_child : Tree → Child
as_child (Policy policy) = child.Policy policy
as_child (Set set) = child.Set set
