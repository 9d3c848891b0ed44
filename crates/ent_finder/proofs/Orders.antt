-- Orders one after another, and tests that answer where an order ties.
use Rattle.std.proofs.Common.{◌≡◌, ℕ, Bool, false, List, Some, None, refl, sym, ap, ◌∙◌}
use Rattle.std.specs.Bool.{Decides, one_answer}
use Rattle.std.specs.Cmp.{IsTotalOrder}
use Rattle.std.specs.Cmp.Lexicographic.{nat_list_cmp_total, slice_cmp}
use Rattle.std.specs.FinMap.{IsAntisymmetric, nat_cmp-IsAntisymmetric, slice_cmp-IsAntisymmetric}
use Rattle.std.specs.Option.{option_cmp}
use Rattle.std.specs.Ordering.{is_eq, is_gt, nat_cmp, ordering_then}
use Rattle.std.specs.Str.{bytes_eq}
use Rattle.std.specs.declared.cmp.Ordering.{Ordering}
use Rattle.std.specs.declared.cmp.Ordering.TheVariants.{Less, Equal, Greater}
use Rattle.std.proofs.lemmas.Cmp.{tied_itself}
use Rattle.std.proofs.lemmas.Slice.Eq.{bytes_eq-Decides}
use Rattle.ent_finder.proofs.Sorted.{equal}

-- both parts tie where the two tie one after the other
pub then_equal : (a b : Ordering) → ordering_then a b ≡ Equal → (a ≡ Equal) × (b ≡ Equal)
then_equal Less b e = cc
then_equal Equal b e = (refl, e)
then_equal Greater b e = cc

-- the first part isn't greater where the two are less one after the other
pub then_less : (a b : Ordering) → ordering_then a b ≡ Less → is_gt a ≡ false
then_less Less b e = refl
then_less Equal b e = refl
then_less Greater b e = cc

pub then_assoc : (a b c : Ordering) → ordering_then (ordering_then a b) c ≡ ordering_then a (ordering_then b c)
then_assoc Less b c = refl
then_assoc Equal b c = refl
then_assoc Greater b c = refl

pub then_none : (a : Ordering) → ordering_then a Equal ≡ a
then_none Less = refl
then_none Equal = refl
then_none Greater = refl

-- ---- only equal texts tie

pub lists_same : IsAntisymmetric (slice_cmp nat_cmp)
lists_same = slice_cmp-IsAntisymmetric nat_cmp-IsAntisymmetric

pub options_same : {K : Type 0} {R : K → K → Ordering} → IsAntisymmetric R → IsAntisymmetric (option_cmp R)
options_same same None None e = refl
options_same same None (Some y) e = cc
options_same same (Some x) None e = cc
options_same same (Some x) (Some y) e = ap Some (same x y e)

-- a test that decides equality, the other way round too, answers where an order ties at equal values alone
pub tied : {K : Type 0} {R : K → K → Ordering} → IsTotalOrder R → IsAntisymmetric R → (test : K → K → Bool) → ((a b : K) → Decides (test a b) (a ≡ b)) → (a b : K) → test b a ≡ is_eq (R a b)
tied {R = R} o same test decides a b =
    one_answer (test b a) (is_eq (R a b)) (λ h. sym ((decides b a).0 h), λ e. (decides b a).1 (sym e))
    (λ h. same a b (equal _ h), λ e. ap (λ x. is_eq (R x b)) e ∙ ap is_eq (tied_itself o b))

pub texts_tied : (a b : List ℕ) → bytes_eq b a ≡ is_eq (slice_cmp nat_cmp a b)
texts_tied = tied nat_list_cmp_total lists_same bytes_eq bytes_eq-Decides
