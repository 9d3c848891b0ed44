-- The variables of several parts.
use Rattle.std.proofs.Common.{◌≡◌, List, ◌++◌, Bool, ◌&&◌}
use Rattle.std.proofs.lemmas.List.Folds as folds
use Rattle.std.specs.List.{list_all}

-- all of two lists pass where all of each do
pub all_of_both : {X : Type 0} (p : X → Bool) (xs ys : List X) → list_all p (xs ++ ys) ≡ (list_all p xs && list_all p ys)
all_of_both p xs ys = folds.list_all-append p xs ys
