-- The difference of two tables.
use Rattle.std.specs.Prelude.{◌≡◌, List, [], ◌∷◌, ◌++◌, Bool, true, false, not, if◌then◌else◌, Option, Some, None, map}
use Rattle.std.specs.List.{All, list_any}
use Rattle.std.specs.List.Sorted.{IsStrictlySortedBy}
use Rattle.std.specs.Ordering.{is_eq}
use Rattle.std.specs.declared.cmp.Ordering.{Ordering}
use Rattle.std.specs.declared.cmp.Ordering.TheVariants.{Equal}
use Rattle.ent_log.specs.declared.change.LoggedChange.{LoggedChange}

-- whether two optional answers are the same
abbrev pub same_optional : {A : Type 0} → (A → A → Bool) → Option A → Option A → Bool
same_optional eq None None = true
same_optional eq (Some a) (Some b) = eq a b
same_optional eq _ _ = false

-- whether two tables have different optional answers for a key
abbrev pub differs : {K A : Type 0} → (A → A → Bool) → (K → Option A) → (K → Option A) → K → Bool
differs eq before after k = not (same_optional eq (before k) (after k))

-- keys that compare as equal have the same answer
abbrev pub Respects : {K A : Type 0} → (K → K → Ordering) → (K → Option A) → Type 0
Respects {K} cmp table = (a b : K) → cmp a b ≡ Equal → table a ≡ table b

-- a change has the answers of two tables for its key
abbrev pub HasAnswers : {K A : Type 0} → (K → Option A) → (K → Option A) → LoggedChange K A → Type 0
HasAnswers before after c = (c.before ≡ before c.key) × (c.after ≡ after c.key)

-- a list of changes is the difference of two tables: the keys to which they give different answers, each once and in
-- order, with both answers
pub record IsDifference {K A : Type 0} (cmp : K → K → Ordering) (eq : A → A → Bool) (before after : K → Option A)
    (changes : List (LoggedChange K A)) : Type 0 where
  pub exact : (k : K) → list_any (λ c. is_eq (cmp k c.key)) changes ≡ differs eq before after k
  pub answers : All (HasAnswers before after) changes
  pub ascending : IsStrictlySortedBy cmp (map (λ c. c.key) changes)

-- ---- how it is found

-- the change of a key with two answers, if they differ
abbrev pub change_at : {K A : Type 0} → (A → A → Bool) → K → Option A → Option A → List (LoggedChange K A)
change_at eq k before after = if same_optional eq before after then [] else record { key = k; before = before; after = after } ∷ []

-- the changes of keys with old answers, where the present answers are others
abbrev pub changes_among : {K A : Type 0} → (A → A → Bool) → (K → Option A) → List (K × Option A) → List (LoggedChange K A)
changes_among eq now [] = []
changes_among eq now (e ∷ es) = change_at eq e.0 e.1 (now e.0) ++ changes_among eq now es
