-- How kinds, version patterns, keys of documents and references order.
use Rattle.std.specs.Prelude.{◌≡◌, ℕ, List, Option}
use Rattle.std.specs.Cmp.Lexicographic.{slice_cmp}
use Rattle.std.specs.Option.{option_cmp}
use Rattle.std.specs.Ordering.{nat_cmp, on, then_cmp}
use Rattle.std.specs.declared.cmp.Ordering.{Ordering}
use Rattle.ent_policy.specs.contracts.key.DocKeyOrd.TheImpl as keys
use Rattle.ent_policy.specs.contracts.key.KindOrd.TheImpl as kinds
use Rattle.ent_policy.specs.contracts.key.ReferenceOrd.TheImpl as references
use Rattle.ent_policy.specs.contracts.pattern.VersionMatchOrd.TheImpl as patterns
use Rattle.ent_policy.specs.declared.key.DocKey.{DocKey}
use Rattle.ent_policy.specs.declared.key.Kind.{Kind}
use Rattle.ent_policy.specs.declared.key.Kind.TheVariants.{Policy, PolicySet}
use Rattle.ent_policy.specs.declared.key.Reference.{Reference}
use Rattle.ent_policy.specs.declared.pattern.PatternPart.{PatternPart}
use Rattle.ent_policy.specs.declared.pattern.PatternPart.TheVariants.{Number, Any, More}
use Rattle.ent_policy.specs.declared.pattern.VersionConstraints.{VersionConstraints}

-- ---- what `cmp` answers

-- of two kinds
abbrev pub kind_cmp : Kind → Kind → Ordering
kind_cmp = (kinds.ghosts).cmp

-- of two keys
abbrev pub key_cmp : DocKey → DocKey → Ordering
key_cmp = (keys.ghosts).cmp

-- of two version patterns
abbrev pub pattern_cmp : List PatternPart → List PatternPart → Ordering
pattern_cmp = (patterns.ghosts).cmp

-- of two references
abbrev pub reference_cmp : Reference → Reference → Ordering
reference_cmp = (references.ghosts).cmp

-- ---- the order that is meant

-- the place of a kind
abbrev pub place_of_kind : Kind → ℕ
place_of_kind Policy = 0
place_of_kind PolicySet = 1

-- a policy before a policy set
abbrev pub kind_order : Kind → Kind → Ordering
kind_order = on place_of_kind nat_cmp

-- by kind, then by the bytes of the id, then by version, number by number
abbrev pub key_order : DocKey → DocKey → Ordering
key_order = then_cmp (on (λ k. k.kind) kind_order) (then_cmp (on (λ k. k.id) (slice_cmp nat_cmp)) (on (λ k. k.version) (slice_cmp nat_cmp)))

-- the place of a part: numbers, then `*`, then `+`
abbrev pub place_of_part : PatternPart → ℕ
place_of_part (Number n) = 0
place_of_part Any = 1
place_of_part More = 2

-- of two numbers the smaller one first
abbrev pub part_order : PatternPart → PatternPart → Ordering
part_order (Number m) (Number n) = nat_cmp m n
part_order a b = nat_cmp (place_of_part a) (place_of_part b)

-- patterns part by part, none before any
abbrev pub maybe_pattern_order : Option (List PatternPart) → Option (List PatternPart) → Ordering
maybe_pattern_order = option_cmp (slice_cmp part_order)

-- by the version, then by the earliest, then by the latest
abbrev pub constraints_order : VersionConstraints → VersionConstraints → Ordering
constraints_order = then_cmp (on (λ c. c.version) maybe_pattern_order) (then_cmp (on (λ c. c.earliest) maybe_pattern_order) (on (λ c. c.latest) maybe_pattern_order))

-- by kind, then by the bytes of the id, then by the constraints
abbrev pub reference_order : Reference → Reference → Ordering
reference_order = then_cmp (on (λ r. r.kind) kind_order) (then_cmp (on (λ r. r.id) (slice_cmp nat_cmp)) (on (λ r. r.constraints) constraints_order))

-- ---- laws

-- `cmp` of kinds answers by that order
abbrev pub PoliciesComeFirst : Type 0
PoliciesComeFirst = (a b : Kind) → kind_cmp a b ≡ kind_order a b

-- `cmp` of keys does
abbrev pub KeysOrderByName : Type 0
KeysOrderByName = (a b : DocKey) → key_cmp a b ≡ key_order a b

-- `cmp` of version patterns does
abbrev pub PatternsOrderByPart : Type 0
PatternsOrderByPart = (a b : List PatternPart) → pattern_cmp a b ≡ slice_cmp part_order a b

-- `cmp` of references does
abbrev pub ReferencesOrderByName : Type 0
ReferencesOrderByName = (a b : Reference) → reference_cmp a b ≡ reference_order a b
