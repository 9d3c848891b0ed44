-- The names of a category, one after another.
use Rattle.std.proofs.Common.{◌≡◌, ℕ, List, [], ◌∷◌, ◌++◌, Bor, true, false, map, refl, ap, append-nil, sym, ◌∙◌}
use Rattle.std.proofs.lemmas.List.{map-append}
use Rattle.std.proofs.lemmas.List.Elements.{filter_map-append}
use Rattle.std.specs.Prelude.{bytes_eq}
use Rattle.ent_values.specs.declared.value.Value.{Value}
use Rattle.ent_values.specs.declared.value.Value.TheVariants as values
use Rattle.lint_declared.specs.Closed.{names_of}
use Rattle.lint_declared.specs.declared.listed.ListedName.{ListedName}

-- what references show
abbrev pub shown : List (Bor ListedName) → List ListedName
shown = map (λ n. n.now)

module _ (category : List ℕ) (before : List (Bor ListedName)) (n : Bor ListedName) where
  split : names_of category (shown (before ++ n ∷ [])) ≡ names_of category (shown before) ++ names_of category (n.now ∷ [])
  split = ap (names_of category) (map-append (λ (m : Bor ListedName). m.now) before (n ∷ [])) ∙ filter_map-append _ (shown before) (n.now ∷ [])

  -- one of the category
  pub one_more : (old new : List Value) → bytes_eq n.now.category category ≡ true → new ≡ old ++ values.Text n.now.name ∷ []
      → old ≡ names_of category (shown before) → new ≡ names_of category (shown (before ++ n ∷ []))
  one_more old new is put so_far =
      put ∙ (λ j. so_far j ++ values.Text n.now.name ∷ []) ∙ sym (split ∙ ap (λ vs. names_of category (shown before) ++ vs) (of_one is))
    where
      of_one : bytes_eq n.now.category category ≡ true → names_of category (n.now ∷ []) ≡ values.Text n.now.name ∷ []
      of_one is = rw is refl

  -- one of another
  pub none_more : (old : List Value) → bytes_eq n.now.category category ≡ false → old ≡ names_of category (shown before) → old ≡ names_of category (shown (before ++ n ∷ []))
  none_more old is so_far =
      so_far ∙ sym (append-nil (names_of category (shown before))) ∙ sym (split ∙ ap (λ vs. names_of category (shown before) ++ vs) (of_none is))
    where
      of_none : bytes_eq n.now.category category ≡ false → names_of category (n.now ∷ []) ≡ []
      of_none is = rw is refl

-- all of them
pub of_all : (category : List ℕ) (old : List Value) (before : List (Bor ListedName)) (all : List ListedName) → shown before ≡ all → old ≡ names_of category (shown before) → old ≡ names_of category all
of_all category old before all are so_far = so_far ∙ ap (names_of category) are
