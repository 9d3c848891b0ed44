-- Steps of loops that gather.
use Rattle.std.proofs.Common.{◌≡◌, ◌∙◌, ◌+◌, ◌<◌, ◌≤◌, ℕ, suc, List, [], ◌∷◌, ◌++◌, Bool, true, false, cond, Option, Some, ap, sym, add-one, append_assoc, drop, get_or, length, map, slice_get, take}
use Rattle.std.specs.FinMap.{entries}
use Rattle.std.specs.List.{filter}
use Rattle.std.proofs.lemmas.List.{append-nil, drop_all, drop_more, map_more, take_all, take_more}
use Rattle.std.proofs.lemmas.List.Elements.{filter-append, filter_map-append}
use Rattle.std.proofs.lemmas.Option.{get_or_from_slice_get, slice_get_within}
use Rattle.ent_policy.specs.declared.document.Tree.{Tree}
use Rattle.ent_policy.specs.declared.key.DocKey.{DocKey}
use Rattle.ent_finder.proofs.Held.{entries-held, filled}
use Rattle.ent_finder.specs.Slots.{Slots, held}
use Rattle.lint_links.specs.References.{Below, numbered}
use Rattle.lint_links.specs.declared.placed.PlacedReference.{PlacedReference}

-- ---- children

module _ {C : Type 0} (f : C → Below) (cs : List C) (i : ℕ) (c : C) (path : List ℕ) where
  -- the child of this number stands before the others
  here : i < length cs → c ≡ get_or cs i c → numbered i (map f (drop i cs)) path ≡ f c (path ++ i ∷ []) ++ numbered (i + 1) (map f (drop (i + 1) cs)) path
  here within is =
      ap (λ ds. numbered i (map f ds) path) (drop_more cs i c within)
      ∙ ap (λ d. f d (path ++ i ∷ []) ++ numbered (suc i) (map f (drop (i + 1) cs)) path) (sym is)
      ∙ ap (λ n. f c (path ++ i ∷ []) ++ numbered n (map f (drop (i + 1) cs)) path) (sym (add-one i))

  -- one child more
  pub child_more : (so_far next whole : List PlacedReference) → i < length cs → c ≡ get_or cs i c → so_far ++ numbered i (map f (drop i cs)) path ≡ whole
      → next ≡ so_far ++ f c (path ++ i ∷ []) → next ++ numbered (i + 1) (map f (drop (i + 1) cs)) path ≡ whole
  child_more so_far next whole within is before after =
      ap (λ ps. ps ++ numbered (i + 1) (map f (drop (i + 1) cs)) path) after
      ∙ append_assoc so_far (f c (path ++ i ∷ [])) (numbered (i + 1) (map f (drop (i + 1) cs)) path)
      ∙ ap (λ ps. so_far ++ ps) (sym (here within is)) ∙ before

-- all children
pub child_all : {C : Type 0} (f : C → Below) (cs : List C) (i : ℕ) (path : List ℕ) (so_far whole : List PlacedReference) → length cs ≤ i
    → so_far ++ numbered i (map f (drop i cs)) path ≡ whole → so_far ≡ whole
child_all f cs i path so_far whole past is =
    sym (append-nil so_far) ∙ ap (λ ds. so_far ++ numbered i (map f ds) path) (sym (drop_all i cs past)) ∙ is

-- ---- slots

-- one slot more
pub slot_more : (es : List (DocKey × Option Tree)) (i : ℕ) (e : DocKey × Option Tree) (so_far next : List (DocKey × Tree)) → slice_get es i ≡ Some e
    → so_far ≡ filled (take i es) → next ≡ so_far ++ filled (e ∷ []) → next ≡ filled (take (i + 1) es)
slot_more es i e so_far next is before after =
    let more : take (i + 1) es ≡ take i es ++ e ∷ [] = take_more es i e (slice_get_within es i e is) ∙ ap (λ x. take i es ++ x ∷ []) (get_or_from_slice_get es i e e is) in
    after ∙ ap (λ xs. xs ++ filled (e ∷ [])) before ∙ sym (ap filled more ∙ filter_map-append _ (take i es) (e ∷ []))

-- all slots
pub slot_all : (m : Slots) (i : ℕ) (so_far : List (DocKey × Tree)) → length (entries m) ≤ i → so_far ≡ filled (take i (entries m)) → so_far ≡ entries (held m)
slot_all m i so_far past is = is ∙ ap filled (take_all i (entries m) past) ∙ sym (entries-held m)

-- ---- filters

module _ {A B : Type 0} (f : A → B) (p : B → Bool) (xs : List A) (i : ℕ) (x : A) (within : i < length xs) (is : x ≡ get_or xs i x) where
  kept : filter p (map f (take (i + 1) xs)) ≡ filter p (map f (take i xs)) ++ cond (p (f x)) (f x ∷ []) []
  kept = ap (filter p) (map_more f xs i x within ∙ ap (λ y. map f (take i xs) ++ f y ∷ []) (sym is)) ∙ filter-append p (map f (take i xs)) (f x ∷ [])

  pub kept_more : (so_far next : List B) → so_far ≡ filter p (map f (take i xs)) → p (f x) ≡ true → next ≡ so_far ++ f x ∷ [] → next ≡ filter p (map f (take (i + 1) xs))
  kept_more so_far next before passes after =
      after ∙ ap (λ ys. ys ++ f x ∷ []) before ∙ ap (λ b. filter p (map f (take i xs)) ++ cond b (f x ∷ []) []) (sym passes) ∙ sym kept

  pub kept_same : (so_far : List B) → so_far ≡ filter p (map f (take i xs)) → p (f x) ≡ false → so_far ≡ filter p (map f (take (i + 1) xs))
  kept_same so_far before fails =
      before ∙ sym (append-nil (filter p (map f (take i xs)))) ∙ ap (λ b. filter p (map f (take i xs)) ++ cond b (f x ∷ []) []) (sym fails) ∙ sym kept

-- a filtered list with one element more
pub filter_more : {A : Type 0} (p : A → Bool) (xs : List A) (i : ℕ) (x : A) (so_far next : List A) → i < length xs → x ≡ get_or xs i x
    → so_far ≡ filter p (take i xs) → next ≡ so_far ++ filter p (x ∷ []) → next ≡ filter p (take (i + 1) xs)
filter_more p xs i x so_far next within is before after =
    after ∙ ap (λ ys. ys ++ filter p (x ∷ [])) before
    ∙ sym (ap (filter p) (take_more xs i x within ∙ ap (λ y. take i xs ++ y ∷ []) (sym is)) ∙ filter-append p (take i xs) (x ∷ []))
