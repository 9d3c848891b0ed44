-- What stands in joined lists.
use Rattle.std.proofs.Common.{◌≡◌, ◌⊎◌, inl, inr, ℕ, zero, suc, List, [], ◌∷◌, ◌++◌, Some, slice_get, sym, ap, ap₂, ◌∙◌}
use Rattle.std.proofs.lemmas.List.{append-nil}
use Rattle.memo_bags.proofs.Growing.{get_more}
use Rattle.memo_answers.specs.Told.{AreAmong, HasWay, IsPut}
use Rattle.memo_answers.specs.declared.told.ToldAnswer.{ToldAnswer}

-- in the second one
pub behind : {A : Type 0} (xs ys : List A) (n : ℕ) (x : A) → slice_get ys n ≡ Some x → (k : ℕ) × (slice_get (xs ++ ys) k ≡ Some x)
behind [] ys n x at = (n, at)
behind (y ∷ xs) ys n x at =
    let later = behind xs ys n x at in
    (suc later.0, later.1)

-- in one of them
pub either : {A : Type 0} (xs ys : List A) (n : ℕ) (x : A) → slice_get (xs ++ ys) n ≡ Some x → ((k : ℕ) × (slice_get xs k ≡ Some x)) ⊎ ((k : ℕ) × (slice_get ys k ≡ Some x))
either [] ys n x at = inr (n, at)
either (y ∷ xs) ys zero x at = inl (zero, at)
either (y ∷ xs) ys (suc n) x at = further (either xs ys n x at) where
  further : ((k : ℕ) × (slice_get xs k ≡ Some x)) ⊎ ((k : ℕ) × (slice_get ys k ≡ Some x)) → ((k : ℕ) × (slice_get (y ∷ xs) k ≡ Some x)) ⊎ ((k : ℕ) × (slice_get ys k ≡ Some x))
  further (inl found) = inl (suc found.0, found.1)
  further (inr found) = inr found

-- ---- cases

-- a case of a way is among more
pub way_behind : (xs ys : List ToldAnswer) (way : List ℕ) (c : ToldAnswer) → HasWay ys way c → HasWay (xs ++ ys) way c
way_behind xs ys way c has =
    let later = behind xs ys has.0 c has.1.0 in
    (later.0, (later.1, has.1.1))

pub way_before : (xs ys : List ToldAnswer) (way : List ℕ) (c : ToldAnswer) → HasWay xs way c → HasWay (xs ++ ys) way c
way_before xs ys way c has = (has.0, (get_more xs ys has.0 c has.1.0, has.1.1))

-- the first ones are dropped
pub among_behind : (xs ys new none : List ToldAnswer) → new ≡ ys → none ≡ [] → AreAmong (xs ++ ys) (new ++ none)
among_behind xs ys new none same is place d at =
    behind xs ys place d (ap (λ l. slice_get l place) (sym (append-nil ys) ∙ ap₂ (λ l m. l ++ m) (sym same) (sym is)) ∙ at)

-- one is put behind those that stay
pub put_behind : (c : ToldAnswer) (first xs old new : List ToldAnswer) → AreAmong first (xs ++ old) → IsPut c old new → IsPut c first (xs ++ new)
put_behind c first xs old new among put place d at = by (either xs new place d at) where
  there : (d ≡ c) ⊎ ((k : ℕ) × (slice_get old k ≡ Some d)) → (d ≡ c) ⊎ ((k : ℕ) × (slice_get first k ≡ Some d))
  there (inl same) = inl same
  there (inr found) =
      let later = behind xs old found.0 d found.1 in
      inr (among later.0 d later.1)

  by : ((k : ℕ) × (slice_get xs k ≡ Some d)) ⊎ ((k : ℕ) × (slice_get new k ≡ Some d)) → (d ≡ c) ⊎ ((k : ℕ) × (slice_get first k ≡ Some d))
  by (inl found) = inr (among found.0 d (get_more xs old found.0 d found.1))
  by (inr found) = there (put found.0 d found.1)
