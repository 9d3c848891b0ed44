-- The order of requests tells all of them apart.
use Rattle.std.proofs.Common.{◌≡◌, Option, refl, ap, true}
use Rattle.std.specs.Cmp.{Equal-is, IsTotalOrder}
use Rattle.std.specs.FinMap.{IsAntisymmetric, nat_cmp-IsAntisymmetric, slice_cmp-IsAntisymmetric}
use Rattle.std.specs.Ordering.{is_eq, ordering_then}
use Rattle.std.specs.declared.cmp.Ordering.{Ordering}
use Rattle.std.specs.declared.cmp.Ordering.TheVariants.{Less, Equal, Greater}
use Rattle.ent_log.specs.Difference.{Respects}
use Rattle.ent_eval.specs.contracts.who.WhoOrd.TheImpl.Laws.{total-law}
use Rattle.ent_eval.specs.declared.who.Who.{Who}
use Rattle.ent_cells.specs.Order.{request_order}

both_tied : (a b : Ordering) → ordering_then a b ≡ Equal → (a ≡ Equal) × (b ≡ Equal)
both_tied Equal b e = (refl, e)
both_tied Less b e = absurd (cc)
both_tied Greater b e = absurd (cc)

pub requests-exact : IsAntisymmetric request_order
requests-exact x y e =
    let first = both_tied _ _ e in
    let rest = both_tied _ _ first.1 in
    let texts = slice_cmp-IsAntisymmetric nat_cmp-IsAntisymmetric in
    λ i. record { person = texts x.person y.person first.0 i; action = texts x.action y.action rest.0 i; resource = texts x.resource y.resource rest.1 i }

pub requests-total : IsTotalOrder request_order
requests-total = total-law

-- a request that passes for another is that one
pub same_request : (x y : Who) → is_eq (request_order x y) ≡ true → x ≡ y
same_request x y e = requests-exact x y ((Equal-is (request_order x y)).0 e)

-- each table has one answer to requests that compare as equal
pub requests-respected : {A : Type 0} (table : Who → Option A) → Respects request_order table
requests-respected table a b e = ap table (requests-exact a b e)
