-- What is known of typed documents.
use Rattle.std.proofs.Common.{◌≡◌, ℕ, ◌<◌, Bool, true, false, ◌&&◌, List, [], ◌∷◌, length, get_or, zero, suc, refl, ap, ◌∙◌, arith}
use Rattle.std.specs.List.{list_all}
use Rattle.ent_policy.specs.declared.document.AllOf.{AllOf}
use Rattle.ent_policy.specs.declared.document.AnyOf.{AnyOf}
use Rattle.ent_policy.specs.declared.document.Match.{Match}
use Rattle.ent_policy.specs.Typing.{all_of_is_typed, any_of_is_typed, match_is_typed}

pub both_true : (a b : Bool) → (a && b) ≡ true → (a ≡ true) × (b ≡ true)
both_true true true is = (refl, refl)
both_true true false is = absurd (cc)
both_true false b is = absurd (cc)

-- what holds of all holds of the one at i
pub holds_at : {A : Type 0} (p : A → Bool) (xs : List A) (i : ℕ) (x : A) → list_all p xs ≡ true → i < length xs → x ≡ get_or xs i x → p x ≡ true
holds_at p [] i x all below at = absurd (omega (arith, below))
holds_at p (y ∷ ys) zero x all below at = rw at (both_true (p y) (list_all p ys) all).0
holds_at p (y ∷ ys) (suc i) x all below at = holds_at p ys i x (both_true (p y) (list_all p ys) all).1 (omega (arith, below)) at

pub matches_typed : (xs : List AllOf) (i : ℕ) (x : AllOf) (members : List Match) → list_all all_of_is_typed xs ≡ true → i < length xs → x ≡ get_or xs i x → members ≡ x.matches → list_all match_is_typed members ≡ true
unfolding all_of_is_typed
matches_typed xs i x members all below at is = ap (list_all match_is_typed) is ∙ holds_at all_of_is_typed xs i x all below at

pub alternatives_typed : (xs : List AnyOf) (i : ℕ) (x : AnyOf) (members : List AllOf) → list_all any_of_is_typed xs ≡ true → i < length xs → x ≡ get_or xs i x → members ≡ x.all_of → list_all all_of_is_typed members ≡ true
unfolding any_of_is_typed
alternatives_typed xs i x members all below at is = ap (list_all all_of_is_typed) is ∙ holds_at any_of_is_typed xs i x all below at
