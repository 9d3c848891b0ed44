-- The name of a document.
use Rattle.std.specs.Prelude.{ℕ, List, codes}
use Rattle.ent_policy.specs.declared.document.Tree.{Tree}
use Rattle.ent_policy.specs.declared.document.Tree.TheVariants as tree
use Rattle.ent_policy.specs.declared.key.DocKey.{DocKey}
use Rattle.ent_policy.specs.declared.key.Kind.{Kind}
use Rattle.ent_policy.specs.declared.key.Kind.TheVariants as kind

-- the element's name of a document (sections 5.1 and 5.14)
abbrev pub kind_word : Kind → List ℕ
kind_word kind.Policy = codes "Policy"
kind_word kind.PolicySet = codes "PolicySet"

-- the kind, id and version of a document
abbrev pub key_of : Tree → DocKey
key_of (tree.Policy policy) = record { kind = kind.Policy; id = policy.id; version = policy.version }
key_of (tree.Set set) = record { kind = kind.PolicySet; id = set.id; version = set.version }
