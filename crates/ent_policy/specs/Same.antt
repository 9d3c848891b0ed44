-- Whether two kinds, names, versions, version patterns, constraints, keys, references or documents are the same, and that
-- this test decides it.
use Rattle.std.specs.Prelude.{◌≡◌, ℕ, List, Bool}
use Rattle.std.specs.Bool.{Decides}
use Rattle.ent_policy.specs.contracts.document.DocumentPartialEq.TheImpl as documents
use Rattle.ent_policy.specs.contracts.key.DocKeyPartialEq.TheImpl as keys
use Rattle.ent_policy.specs.contracts.key.KindPartialEq.TheImpl as kinds
use Rattle.ent_policy.specs.contracts.key.ReferencePartialEq.TheImpl as references
use Rattle.ent_policy.specs.contracts.name.NamePartialEq.TheImpl as names
use Rattle.ent_policy.specs.contracts.pattern.VersionConstraintsPartialEq.TheImpl as constraints
use Rattle.ent_policy.specs.contracts.pattern.VersionMatchPartialEq.TheImpl as patterns
use Rattle.ent_policy.specs.contracts.version.VersionPartialEq.TheImpl as versions
use Rattle.ent_policy.specs.declared.document.Tree.{Tree}
use Rattle.ent_policy.specs.declared.key.DocKey.{DocKey}
use Rattle.ent_policy.specs.declared.key.Kind.{Kind}
use Rattle.ent_policy.specs.declared.key.Reference.{Reference}
use Rattle.ent_policy.specs.declared.pattern.PatternPart.{PatternPart}
use Rattle.ent_policy.specs.declared.pattern.VersionConstraints.{VersionConstraints}

-- what `==` of two kinds answers
abbrev pub same_kind : Kind → Kind → Bool
same_kind = (kinds.ghosts).eq

-- what `==` of two names answers
abbrev pub same_name : List ℕ → List ℕ → Bool
same_name = (names.ghosts).eq

-- what `==` of two versions answers
abbrev pub same_version : List ℕ → List ℕ → Bool
same_version = (versions.ghosts).eq

-- what `==` of two version patterns answers
abbrev pub same_pattern : List PatternPart → List PatternPart → Bool
same_pattern = (patterns.ghosts).eq

-- what `==` of two constraints answers
abbrev pub same_constraints : VersionConstraints → VersionConstraints → Bool
same_constraints = (constraints.ghosts).eq

-- what `==` of two keys answers
abbrev pub same_key : DocKey → DocKey → Bool
same_key = (keys.ghosts).eq

-- what `==` of two references answers
abbrev pub same_reference : Reference → Reference → Bool
same_reference = (references.ghosts).eq

-- what `==` of two documents answers
abbrev pub same_document : Tree → Tree → Bool
same_document = (documents.ghosts).eq

-- it answers whether they are equal
abbrev pub SameKindsAreEqual : Type 0
SameKindsAreEqual = (a b : Kind) → Decides (same_kind a b) (a ≡ b)

-- that of two names does
abbrev pub SameNamesAreEqual : Type 0
SameNamesAreEqual = (a b : List ℕ) → Decides (same_name a b) (a ≡ b)

-- that of two versions does
abbrev pub SameVersionsAreEqual : Type 0
SameVersionsAreEqual = (a b : List ℕ) → Decides (same_version a b) (a ≡ b)

-- that of two version patterns does
abbrev pub SamePatternsAreEqual : Type 0
SamePatternsAreEqual = (a b : List PatternPart) → Decides (same_pattern a b) (a ≡ b)

-- that of two constraints does
abbrev pub SameConstraintsAreEqual : Type 0
SameConstraintsAreEqual = (a b : VersionConstraints) → Decides (same_constraints a b) (a ≡ b)

-- that of two keys does
abbrev pub SameKeysAreEqual : Type 0
SameKeysAreEqual = (a b : DocKey) → Decides (same_key a b) (a ≡ b)

-- that of two references does
abbrev pub SameReferencesAreEqual : Type 0
SameReferencesAreEqual = (a b : Reference) → Decides (same_reference a b) (a ≡ b)

-- that of two documents does
abbrev pub SameDocumentsAreEqual : Type 0
SameDocumentsAreEqual = (a b : Tree) → Decides (same_document a b) (a ≡ b)
