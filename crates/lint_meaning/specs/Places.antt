-- Where something is told, and what is told there.
use Rattle.std.specs.Prelude.{ℕ, suc, List, [], ◌∷◌, ◌++◌, Bool, true, false, Option, Some, None, codes, decimal}
use Rattle.lint_meaning.specs.declared.warning.Meaning.{Meaning}
use Rattle.lint_meaning.specs.declared.warning.Warning.{Warning}

-- what is told of a part, wherever it stands: for each place of it, as a JSON pointer (RFC 6901)
abbrev pub Told : Type 0
Told = List ℕ → List Warning

-- the place of the member of that number of a list, of which the key is given
abbrev pub member : List ℕ → List ℕ → ℕ → List ℕ
member pointer key n = pointer ++ (codes "/" ++ (key ++ (codes "/" ++ decimal n)))

-- the place of what stands at a key
abbrev pub at_key : List ℕ → List ℕ → List ℕ
at_key pointer key = pointer ++ (codes "/" ++ key)

-- what is told of the members of the list at a key, of which the first has this number
abbrev pub numbered : List ℕ → ℕ → List Told → Told
numbered key n [] pointer = []
numbered key n (part ∷ others) pointer = part (member pointer key n) ++ numbered key (suc n) others pointer

-- something is told of a part, if it is so
abbrev pub told_if : Bool → Meaning → Told
told_if true meaning pointer = record { pointer = pointer; meaning = meaning } ∷ []
told_if false meaning pointer = []

-- what is found of a part is told of it, if it is found
abbrev pub told_of : {A : Type 0} → (A → Meaning) → Option A → Told
told_of meaning None pointer = []
told_of meaning (Some found) pointer = record { pointer = pointer; meaning = meaning found } ∷ []
