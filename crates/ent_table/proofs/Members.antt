-- Members of lists that are made of others.
use Rattle.std.proofs.Common.{◌≡◌, List, [], ◌∷◌, map, Bool, true, false, cond, refl, sym, ap, subst, ◌∙◌, arith, inl, inr, ⊎_elim}
use Rattle.std.specs.Prelude.{◌⊎◌}
use Rattle.std.specs.List.{Contains, filter}
use Rattle.std.proofs.lemmas.Bool.{false≢true}
use Rattle.std.proofs.lemmas.List.Elements.{Contains-append_cases, Contains-append_left, Contains-append_right, Contains-push_cases, Contains-push}

module _ {X : Type 0} where
  pub none_contained : (x : X) → Contains [] x → ⊥
  none_contained x h = absurd (omega (arith, h.1))

  pub first_or_later : (x y : X) (xs : List X) → Contains (x ∷ xs) y → (x ≡ y) ⊎ Contains xs y
  first_or_later x y xs h = ⊎_elim
      (λ one. ⊎_elim (λ none. absurd (none_contained y none)) (λ e. inl e) (Contains-push_cases [] x y one))
      (λ later. inr later)
      (Contains-append_cases (x ∷ []) xs y h)

  pub first_contained : (x : X) (xs : List X) → Contains (x ∷ xs) x
  first_contained x xs = Contains-append_left (x ∷ []) xs x (Contains-push [] x)

  pub later_contained : (x y : X) (xs : List X) → Contains xs y → Contains (x ∷ xs) y
  later_contained x y xs h = Contains-append_right (x ∷ []) xs y h

  -- ---- those that pass a test

  module _ (p : X → Bool) where
    pub passes : (xs : List X) (y : X) → Contains (filter p xs) y → Contains xs y × (p y ≡ true)
    passes [] y h = absurd (none_contained y h)
    passes (x ∷ xs) y h = by (λ l. (later_contained x y xs (passes xs y l).0, (passes xs y l).1)) (p x) refl h
      where
        by : (Contains (filter p xs) y → Contains (x ∷ xs) y × (p y ≡ true)) → (b : Bool) → p x ≡ b → Contains (cond b (x ∷ filter p xs) (filter p xs)) y → Contains (x ∷ xs) y × (p y ≡ true)
        by later true e l = ⊎_elim (λ is. (subst (Contains (x ∷ xs)) is (first_contained x xs), ap p (sym is) ∙ e)) later (first_or_later x y (filter p xs) l)
        by later false e l = later l

    pub passed : (xs : List X) (y : X) → Contains xs y → p y ≡ true → Contains (filter p xs) y
    passed [] y h t = absurd (none_contained y h)
    passed (x ∷ xs) y h t = by (λ l. passed xs y l t) (p x) refl
      where
        by : (Contains xs y → Contains (filter p xs) y) → (b : Bool) → p x ≡ b → Contains (cond b (x ∷ filter p xs) (filter p xs)) y
        by later true e = ⊎_elim
            (λ is. subst (Contains (x ∷ filter p xs)) is (first_contained x (filter p xs)))
            (λ l. later_contained x y (filter p xs) (later l))
            (first_or_later x y xs h)
        by later false e = ⊎_elim (λ is. absurd (false≢true (sym e ∙ ap p is ∙ t))) later (first_or_later x y xs h)

module _ {X Y : Type 0} where
  -- ---- a member for each

  pub mapped : (f : X → Y) (xs : List X) (x : X) → Contains xs x → Contains (map f xs) (f x)
  mapped f [] x h = absurd (none_contained x h)
  mapped f (z ∷ xs) x h = ⊎_elim
      (λ is. subst (λ y. Contains (f z ∷ map f xs) (f y)) is (first_contained (f z) (map f xs)))
      (λ l. later_contained (f z) (f x) (map f xs) (mapped f xs x l))
      (first_or_later z x xs h)

  pub from_mapped : (f : X → Y) (xs : List X) (y : Y) → Contains (map f xs) y → (x : X) × (Contains xs x × (f x ≡ y))
  from_mapped f [] y h = absurd (none_contained y h)
  from_mapped f (z ∷ xs) y h = ⊎_elim
      (λ is. (z, (first_contained z xs, is)))
      (λ l. let r = from_mapped f xs y l in (r.0, (later_contained z r.0 xs r.1.0, r.1.1)))
      (first_or_later (f z) y (map f xs) h)
