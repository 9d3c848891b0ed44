-- What leads to an end leads there through as many references as there are definitions.
use Rattle.std.proofs.Common.{◌≡◌, ℕ, zero, suc, ◌+◌, ◌≤◌, List, [], ◌∷◌, length, Bool, true, false, cond, Option, Some, None, refl, subst, inl, inr, arith}
use mathlib.Core.Logic.{◌⊎◌}
use Rattle.std.proofs.lemmas.Bool.{cases_lt, false≢true}
use Rattle.std.proofs.lemmas.List.Elements.{All-cons, All-nil, All-weaker}
use Rattle.std.specs.List.{All}
use Rattle.ent_policy.specs.Variables.{EndsByDefinitions, defined, definition_of, followed, uses_only, variables}
use Rattle.ent_policy.specs.declared.expression.VariableDefinition.{VariableDefinition}
use Rattle.ent_policy.proofs.References.{all_mono, followed_up, found_has}

-- how many pass
abbrev passing : {X : Type 0} → (X → Bool) → List X → ℕ
passing f [] = 0
passing f (x ∷ xs) = cond (f x) 1 0 + passing f xs

one_of : (b : Bool) → cond b 1 0 ≤ 1
one_of true = omega arith
one_of false = omega arith

passing_most : {X : Type 0} (f : X → Bool) (xs : List X) → passing f xs ≤ length xs
passing_most f [] = omega arith
passing_most f (x ∷ xs) = omega (arith, one_of (f x), passing_most f xs)

-- where none is missing, all pass
passing_all : {X : Type 0} (f : X → Bool) (xs : List X) → length xs ≤ passing f xs → All (λ x. f x ≡ true) xs
passing_all f [] h = All-nil (λ x. f x ≡ true)
passing_all f (x ∷ xs) h = here (f x) refl (passing_all f xs)
  where
    here : (b : Bool) → f x ≡ b → (length xs ≤ passing f xs → All (λ x. f x ≡ true) xs) → All (λ x. f x ≡ true) (x ∷ xs)
    here true is others = All-cons (λ x. f x ≡ true) x xs is (others (omega (arith, rw is at h)))
    here false is others = absurd (omega (arith, rw is at h, passing_most f xs))

fewer : (a b : Bool) → (a ≡ true → b ≡ true) → cond a 1 0 ≤ cond b 1 0
fewer true b h = rw (h refl) (omega arith)
fewer false true h = omega arith
fewer false false h = omega arith

passing_more : {X : Type 0} (f g : X → Bool) → ((x : X) → f x ≡ true → g x ≡ true) → (xs : List X) → passing f xs ≤ passing g xs
passing_more f g h [] = omega arith
passing_more f g h (x ∷ xs) = omega (arith, fewer (f x) (g x) (h x), passing_more f g h xs)

-- where as many pass, it is the same ones
passing_same : {X : Type 0} (f g : X → Bool) → ((x : X) → f x ≡ true → g x ≡ true) → (xs : List X) → passing g xs ≤ passing f xs → All (λ x. g x ≡ true → f x ≡ true) xs
passing_same f g h [] le = All-nil (λ x. g x ≡ true → f x ≡ true)
passing_same f g h (x ∷ xs) le =
    let rest = passing_more f g h xs in
    let one = fewer (f x) (g x) (h x) in
    All-cons (λ x. g x ≡ true → f x ≡ true) x xs (λ e. here (f x) (omega (arith, rw e at le, rest))) (passing_same f g h xs (omega (arith, one, le)))
  where
    here : (b : Bool) → 1 ≤ cond b 1 0 → b ≡ true
    here true h = refl
    here false h = absurd (omega arith)

-- ---- references

module _ (ds : List VariableDefinition) where
  -- a variable leads to an end through that many
  abbrev Ends : ℕ → List ℕ → Type 0
  Ends n q = followed uses_only false ds n q ≡ true

  -- one reference more changes nothing
  abbrev Stays : ℕ → Type 0
  Stays n = (q : List ℕ) → Ends (suc n) q → Ends n q

  -- what each definition has, a variable that leads to an end has
  of_definitions : (P : List ℕ → Type 0) (n : ℕ) → All (λ d. Ends n d.id → P d.id) ds → (q : List ℕ) → Ends n q → P q
  of_definitions P zero all q h = absurd (false≢true h)
  of_definitions P (suc n) all q h = at (definition_of ds q) refl h
    where
      at : (o : Option VariableDefinition) → definition_of ds q ≡ o → defined (uses_only (followed uses_only false ds n)) false o ≡ true → P q
      at None is e = absurd (false≢true e)
      at (Some d) is e = let found = found_has (λ d. Ends (suc n) d.id → P d.id) ds q d all is in subst P found.1 (found.0 (rw found.1 h))

  less : (f g : List ℕ → Bool) → ((q : List ℕ) → f q ≡ true → g q ≡ true) → (o : Option VariableDefinition) → defined (uses_only f) false o ≡ true → defined (uses_only g) false o ≡ true
  less f g h None e = e
  less f g h (Some d) e = all_mono f g (variables d.expression) h e

  stays_on : (n : ℕ) → Stays n → Stays (suc n)
  stays_on n stays q = less (followed uses_only false ds (suc n)) (followed uses_only false ds n) stays (definition_of ds q)

  stays_always : (n m : ℕ) → Stays n → (q : List ℕ) → Ends m q → Ends n q
  stays_always n zero stays q h = absurd (false≢true h)
  stays_always n (suc m) stays q h = stays q (less (followed uses_only false ds m) (followed uses_only false ds n) (stays_always n m stays) (definition_of ds q) h)

  -- which definitions do
  abbrev ending : ℕ → VariableDefinition → Bool
  ending n d = followed uses_only false ds n d.id

  -- through n references at least n definitions lead to an end, or one reference more changes nothing
  grows : (n : ℕ) → (n ≤ passing (ending n) ds) ⊎ Stays n
  grows zero = inl (omega arith)
  grows (suc n) =
      elim (grows n) [
        | inl enough ↦ elim (cases_lt (passing (ending n) ds) (passing (ending (suc n)) ds)) [
          | inl lt ↦ inl (omega arith)
          | inr ge ↦ inr (stays_on n (of_definitions (Ends n) (suc n) (passing_same (ending n) (ending (suc n)) (λ d. followed_up ds n d.id) ds ge)))
        ]
        | inr stays ↦ inr (stays_on n stays)
      ]

  ends : (n : ℕ) (q : List ℕ) → Ends n q → Ends (length ds) q
  ends n q h =
      elim (grows (length ds)) [
        | inl enough ↦ of_definitions (Ends (length ds)) n (All-weaker (λ d. ending (length ds) d ≡ true) (λ d. Ends n d.id → Ends (length ds) d.id) (λ d e before. e) ds (passing_all (ending (length ds)) ds enough)) q h
        | inr stays ↦ stays_always (length ds) n stays q h
      ]

pub ends_by_definitions : EndsByDefinitions
ends_by_definitions = ends
