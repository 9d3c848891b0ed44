-- The types of the arguments as a function sees them.
use Rattle.std.proofs.Common.{◌≡◌, Bool, false, List, [], ◌∷◌, map, refl, ap}
use Rattle.std.specs.List.{list_all}
use Rattle.std.specs.Prelude.{◌&&◌}
use Rattle.ent_functions.specs.proofs_only.Types.{seen_type}
use Rattle.ent_functions.specs.declared.types.ArgType.{ArgType}

-- a test of each of what a function gives is a test of that at each
pub all_mapped : {A B : Type 0} (p : B → Bool) (f : A → B) (xs : List A) → list_all p (map f xs) ≡ list_all (λ x. p (f x)) xs
all_mapped p f [] = refl
all_mapped p f (x ∷ xs) = ap (λ rest. p (f x) && rest) (all_mapped p f xs)

-- with no value in a bag's place the types are seen as given
pub seen_as_given : (given : List ArgType) → map (seen_type false) given ≡ given
seen_as_given [] = refl
seen_as_given (type ∷ given) = ap (λ rest. type ∷ rest) (seen_as_given given)
