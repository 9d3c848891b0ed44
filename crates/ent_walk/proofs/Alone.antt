-- The only one of several values.
use Rattle.std.proofs.Common.{◌≡◌, List, [], ◌∷◌, Option, Some, None}
use Rattle.std.specs.Prelude.{IfSome, option_copied}
use Rattle.std.specs.Borrow.{Bor}
use Rattle.ent_values.specs.declared.value.Value.{Value}
use Rattle.ent_request.specs.Own.{sole_value}

-- where there is an only value, the values are that one
pub sole_is : (found : Option (Bor Value)) (vs : List Value) → option_copied found ≡ sole_value vs → IfSome found (λ v. vs ≡ v.now ∷ [])
sole_is None vs is = tt
sole_is (Some v) [] is = absurd (cc)
sole_is (Some v) (w ∷ []) is = cc
sole_is (Some v) (w ∷ x ∷ vs) is = absurd (cc)
