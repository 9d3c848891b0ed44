-- The order of keys.
use Rattle.std.proofs.Common.{◌≡◌, refl}
use Rattle.std.specs.Cmp.Lexicographic.{slice_cmp}
use Rattle.std.specs.FinMap.{IsAntisymmetric}
use Rattle.std.specs.Ordering.{nat_cmp, ordering_then}
use Rattle.std.specs.declared.cmp.Ordering.{Ordering}
use Rattle.std.specs.declared.cmp.Ordering.TheVariants.{Equal}
use Rattle.ent_policy.specs.contracts.key.KindOrd.TheImpl as kinds
use Rattle.ent_policy.specs.declared.key.Kind.{Kind}
use Rattle.ent_policy.specs.declared.key.Kind.TheVariants.{Policy, PolicySet}
use Rattle.ent_finder.proofs.Orders.{lists_same, then_equal}
use Rattle.ent_finder.specs.Slots.{key_cmp}

-- the order of kinds
abbrev pub kind_cmp : Kind → Kind → Ordering
kind_cmp = (kinds.ghosts).cmp

pub kind_same : (a b : Kind) → kind_cmp a b ≡ Equal → a ≡ b
kind_same Policy Policy e = refl
kind_same Policy PolicySet e = cc
kind_same PolicySet Policy e = cc
kind_same PolicySet PolicySet e = refl

-- only equal keys tie
pub key_cmp_antisymmetric : IsAntisymmetric key_cmp
key_cmp_antisymmetric x y e =
    let p = then_equal (kind_cmp x.kind y.kind) (ordering_then (slice_cmp nat_cmp x.id y.id) (slice_cmp nat_cmp x.version y.version)) e in
    let q = then_equal (slice_cmp nat_cmp x.id y.id) (slice_cmp nat_cmp x.version y.version) p.1 in
    let kind = kind_same x.kind y.kind p.0 in
    let id = lists_same x.id y.id q.0 in
    let version = lists_same x.version y.version q.1 in
    λ t. record { kind = kind t; id = id t; version = version t }
