-- That values were found where memory for them was refused.
use Rattle.std.proofs.Common.{◌≡◌, ◌≢◌, ℕ, zero, suc, ◌<◌, List, [], ◌∷◌, ◌++◌, length, slice_index_or as get_or, arith, refl, ap, ◌∙◌}
use Rattle.std.specs.Result.{OnErr}
use Rattle.std.specs.declared.result.Result.{Result}
use Rattle.std.specs.declared.result.Result.TheVariants.{Ok, Err}
use Rattle.ent_finder.proofs.Gathered.{values_in}
use Rattle.ent_finder.specs.declared.row.Row.{Row}

pub refused : {T E P : Type 0} (r : Result T E) → P → OnErr r P
refused (Ok x) p = tt
refused (Err e) p = p

pub front_empty : {A : Type 0} (xs ys : List A) → xs ++ ys ≡ [] → xs ≡ []
front_empty [] ys e = refl
front_empty (x ∷ xs) ys e = absurd cc

pub back_empty : {A : Type 0} (xs ys : List A) → xs ++ ys ≡ [] → ys ≡ []
back_empty [] ys e = e
back_empty (x ∷ xs) ys e = absurd cc

-- rows of which one has values have some
pub some_in : (rs : List Row) (i : ℕ) (r : Row) → i < length rs → r ≡ get_or rs i r → r.values ≢ [] → values_in rs ≢ []
some_in [] i r lt is some none = absurd (omega arith)
some_in (x ∷ rs) zero r lt is some none = some (ap (λ (s : Row). s.values) is ∙ front_empty x.values (values_in rs) none)
some_in (x ∷ rs) (suc i) r lt is some none = some_in rs i r (omega arith) is some (back_empty x.values (values_in rs) none)
