-- `==` decides whether kinds, versions, patterns, keys and references are equal.
use Rattle.std.proofs.Common.{◌≡◌, ℕ, List, rules}
use Rattle.std.specs.Bool.{Decides}
use Rattle.std.proofs.lemmas.Slice.Eq.{bytes_eq-Decides}
use Rattle.ent_policy.proofs.Patterns.{same_constraints-Decides}
use Rattle.ent_values.proofs.Telling.{Tells, decided, decides, last, more, struct}
use Rattle.ent_policy.specs.Same.{same_kind, same_key, same_name, same_reference, same_version}
use Rattle.ent_policy.specs.contracts.key.DocKey as key
use Rattle.ent_policy.specs.contracts.key.DocKeyEq.TheImpl.Laws as keys
use Rattle.ent_policy.specs.contracts.key.Reference as reference
use Rattle.ent_policy.specs.contracts.key.ReferenceEq.TheImpl.Laws as references
use Rattle.ent_policy.specs.declared.key.DocKey.{DocKey}
use Rattle.ent_policy.specs.declared.key.Kind.{Kind}
use Rattle.ent_policy.specs.declared.key.Reference.{Reference}

pub same_kind-Decides : (a b : Kind) → Decides (same_kind a b) (a ≡ b)
same_kind-Decides a b = search rules

pub same_name-Decides : (a b : List ℕ) → Decides (same_name a b) (a ≡ b)
same_name-Decides a b = bytes_eq-Decides a b

pub same_version-Decides : (a b : List ℕ) → Decides (same_version a b) (a ≡ b)
same_version-Decides a b = bytes_eq-Decides a b

pub same_key-Decides : (a b : DocKey) → Decides (same_key a b) (a ≡ b)
same_key-Decides = decides keys.laws-law (struct key.struct key.the_propositions (more (decided same_kind-Decides) (more (decided bytes_eq-Decides) (last (decided same_version-Decides)))))

pub reference-tells : (r : Reference) → Tells same_reference r
reference-tells = struct reference.struct reference.the_propositions (more (decided same_kind-Decides) (more (decided bytes_eq-Decides) (last (decided same_constraints-Decides))))

pub same_reference-Decides : (a b : Reference) → Decides (same_reference a b) (a ≡ b)
same_reference-Decides = decides references.laws-law reference-tells
