-- Values in a slab, each beside its key, in the order of a list of the keys.
use Rattle.std.specs.Prelude.{◌≡◌, ◌+◌, ℕ, List, [], ◌∷◌, cond, nat_eq, is_some, filter_map, map, Option}
use Rattle.std.specs.Option.{option_map}
use Rattle.slab.specs.Slab.{Slab, get}

-- how often a key stands in a list
abbrev pub times : ℕ → List ℕ → ℕ
times k [] = 0
times k (q ∷ qs) = cond (nat_eq k q) 1 0 + times k qs

-- each key stands in the list once where the slab has a value under it, and else never
abbrev pub IsGrid : {A : Type 0} → Slab A → List ℕ → Type 0
IsGrid s ks = (k : ℕ) → times k ks ≡ cond (is_some (get s k)) 1 0

-- the value under a key, beside it
abbrev pub entry_of : {A : Type 0} → Slab A → ℕ → Option (ℕ × A)
entry_of s k = option_map (λ v. (k, v)) (get s k)

-- the values under the keys, each beside its key, in their order
abbrev pub entries_of : {A : Type 0} → Slab A → List ℕ → List (ℕ × A)
entries_of s ks = filter_map (entry_of s) ks

-- the values alone
abbrev pub values : {A : Type 0} → List (ℕ × A) → List A
values es = map (λ e. e.1) es
