-- `cmp` of kinds, version patterns, keys and references is the order that is meant.
use Rattle.std.proofs.Common.{◌≡◌, List, [], ◌∷◌, Option, Some, None, refl, ap}
use Rattle.std.specs.Cmp.Lexicographic.{slice_cmp}
use Rattle.std.specs.Option.{option_cmp}
use Rattle.std.specs.Ordering.{nat_cmp, ordering_then}
use Rattle.ent_policy.specs.Orders.{KeysOrderByName, PatternsOrderByPart, PoliciesComeFirst, ReferencesOrderByName, constraints_order, maybe_pattern_order, part_order, pattern_cmp}
use Rattle.ent_policy.specs.contracts.pattern.PatternPartOrd.TheImpl as parts
use Rattle.ent_policy.specs.contracts.pattern.VersionConstraintsOrd.TheImpl as constraints
use Rattle.ent_policy.specs.declared.key.Kind.TheVariants.{Policy, PolicySet}
use Rattle.ent_policy.specs.declared.pattern.PatternPart.{PatternPart}
use Rattle.ent_policy.specs.declared.pattern.PatternPart.TheVariants.{Number, Any, More}
use Rattle.ent_policy.specs.declared.pattern.VersionConstraints.{VersionConstraints}

pub policies_first : PoliciesComeFirst
policies_first Policy Policy = refl
policies_first Policy PolicySet = refl
policies_first PolicySet Policy = refl
policies_first PolicySet PolicySet = refl

pub keys_by_name : KeysOrderByName
keys_by_name a b = ap (λ o. ordering_then o (ordering_then (slice_cmp nat_cmp a.id b.id) (slice_cmp nat_cmp a.version b.version))) (policies_first a.kind b.kind)

part_by_place : (a b : PatternPart) → (parts.ghosts).cmp a b ≡ part_order a b
part_by_place (Number m) (Number n) = refl
part_by_place (Number m) Any = refl
part_by_place (Number m) More = refl
part_by_place Any (Number n) = refl
part_by_place Any Any = refl
part_by_place Any More = refl
part_by_place More (Number n) = refl
part_by_place More Any = refl
part_by_place More More = refl

pub patterns_by_part : PatternsOrderByPart
patterns_by_part [] [] = refl
patterns_by_part [] (q ∷ qs) = refl
patterns_by_part (p ∷ ps) [] = refl
patterns_by_part (p ∷ ps) (q ∷ qs) = rw (part_by_place p q, patterns_by_part ps qs) refl

maybe_by_part : (a b : Option (List PatternPart)) → option_cmp pattern_cmp a b ≡ maybe_pattern_order a b
maybe_by_part None None = refl
maybe_by_part None (Some q) = refl
maybe_by_part (Some p) None = refl
maybe_by_part (Some p) (Some q) = patterns_by_part p q

constraints_by_pattern : (a b : VersionConstraints) → (constraints.ghosts).cmp a b ≡ constraints_order a b
constraints_by_pattern a b = rw (maybe_by_part a.version b.version, maybe_by_part a.earliest b.earliest, maybe_by_part a.latest b.latest) refl

pub references_by_name : ReferencesOrderByName
references_by_name a b = rw (policies_first a.kind b.kind, constraints_by_pattern a.constraints b.constraints) refl
