-- A box, and a list of boxes, seen through what is in their slots.
use Rattle.std.proofs.Common.{◌≡◌, ℕ, zero, suc, ◌+◌, ◌<◌, ◌≤◌, Bor, IfNone, List, [], ◌∷◌, ◌++◌, OnSome, Option, Some, None, drop, length, map, take, slice_get, slice_index_or as get_or, slice_set as set, refl, sym, ap, ◌∙◌, arith, zero-add}
use Rattle.std.specs.FinMap.{len}
use Rattle.std.specs.List.{cons_option, enumerate_from, filter_map}
use Rattle.std.specs.Option.{option_copied, option_map}
use Rattle.std.proofs.lemmas.List.{drop_all, drop_more, get_or-map, length-map, map-append, map-set, map_more, take_all}
use Rattle.std.proofs.lemmas.List.Sums.{sum_by-append}
use Rattle.std.proofs.lemmas.Option.{slice_get_within}
use Rattle.ent_policy.specs.declared.document.Tree.{Tree}
use Rattle.ent_policy.specs.declared.key.DocKey.{DocKey}
use Rattle.ent_policy.specs.declared.key.Reference.{Reference}
use Rattle.ent_finder.specs.Entry.{entry_of}
use Rattle.ent_finder.specs.Finding.{most_recent}
use Rattle.ent_finder.specs.Slots.{Docs, Slots, document_count, held}
use Rattle.ent_finder.specs.declared.slot.DocSlot.{DocSlot}

-- where nothing stands, the list has ended
past : {A : Type 0} (xs : List A) (i : ℕ) → slice_get xs i ≡ None → length xs ≤ i
past [] i e = omega arith
past (x ∷ xs) zero e = cc
past (x ∷ xs) (suc i) e = omega (arith, past xs i e)

-- what a slot at an index says of the index
pub slot_within : (es : List (DocKey × Option Tree)) (i n : ℕ) (r : Option (Bor DocSlot)) → option_map entry_of (option_copied r) ≡ slice_get es i → length es ≤ n → OnSome r ((i < length es) × (i < n))
slot_within es i n None is h = tt
slot_within es i n (Some slot) is h = let within = slice_get_within es i (entry_of slot.now) (sym is) in (within, omega arith)

pub slot_past : (es : List (DocKey × Option Tree)) (i : ℕ) (r : Option (Bor DocSlot)) → option_map entry_of (option_copied r) ≡ slice_get es i → IfNone r (length es ≤ i)
slot_past es i None is = past es i (sym is)
slot_past es i (Some slot) is = tt

-- the module of a number
pub module_seen : {A B : Type 0} (f : A → B) (xs : List A) (i : ℕ) (x : A) (d : B) → i < length (map f xs) → x ≡ get_or xs i x → f x ≡ get_or (map f xs) i d
module_seen f xs i x d h is = ap f is ∙ sym (get_or-map f xs i x d (simp length-map at h))

-- behind the last module there is none
pub module_beyond : {A B : Type 0} (f : A → B) (xs : List A) (i : ℕ) (d : B) → length xs ≤ i → get_or (map f xs) i d ≡ d
module_beyond f [] i d h = refl
module_beyond f (x ∷ xs) zero d h = absurd (omega (arith, h))
module_beyond f (x ∷ xs) (suc i) d h = module_beyond f xs i d (omega (arith, h))

-- one element changed: its meaning alone changes, by g
pub meanings-set : {A B : Type 0} (f : A → B) (g : B → B) (xs : List A) (i : ℕ) (x y : A) (d : B) → i < length xs → x ≡ get_or xs i x → f y ≡ g (f x) → map f (set xs i y) ≡ set (map f xs) i (g (get_or (map f xs) i d))
meanings-set f g xs i x y d h is e =
    map-set f xs i y ∙ ap (λ v. set (map f xs) i v) (e ∙ ap g (ap f is ∙ sym (get_or-map f xs i x d h)))

-- one element changed to one of the same meaning: no meaning changes
pub meanings-set_same : {A B : Type 0} (f : A → B) (xs : List A) (i : ℕ) (x y : A) → x ≡ get_or xs i x → f y ≡ f x → map f (set xs i y) ≡ map f xs
meanings-set_same f [] i x y is e = refl
meanings-set_same f (z ∷ xs) zero x y is e = λ t. (e ∙ ap f is) t ∷ map f xs
meanings-set_same f (z ∷ xs) (suc i) x y is e = λ t. f z ∷ meanings-set_same f xs i x y is e t

-- what is resolved in modules that are counted from n
abbrev pub resolved_from : ℕ → Reference → List Docs → Option (ℕ × Tree)
resolved_from n reference modules = slice_get (filter_map (λ m. option_map (λ document. (m.0, document)) (most_recent reference m.1)) (enumerate_from n modules)) 0

first_of : ℕ → Option Tree → List (ℕ × Tree) → Option (ℕ × Tree)
first_of n o answers = slice_get (cons_option (option_map (λ document. (n, document)) o) answers) 0

module _ {B : Type 0} (f : B → Slots) (r : Reference) where
  rest : ℕ → List B → List (ℕ × Tree)
  rest n xs = filter_map (λ m. option_map (λ document. (m.0, document)) (most_recent r m.1)) (enumerate_from n (map held (map f xs)))

  -- the module at i is asked before the later ones
  step : (xs : List B) (i : ℕ) (x : B) → i < length xs → x ≡ get_or xs i x → resolved_from i r (map held (map f (drop i xs))) ≡ first_of i (most_recent r (held (f x))) (rest (i + 1) (drop (i + 1) xs))
  unfolding first_of rest
  step xs i x h is =
      ap (λ ys. resolved_from i r (map held (map f ys))) (drop_more xs i x h) ∙ ap (λ y. first_of i (most_recent r (held (f y))) (rest (i + 1) (drop (i + 1) xs))) (sym is)

  pub found_here : (xs : List B) (i : ℕ) (x : B) (d : Tree) → i < length xs → x ≡ get_or xs i x → Some d ≡ most_recent r (held (f x)) → resolved_from i r (map held (map f (drop i xs))) ≡ Some (i, d)
  unfolding first_of
  found_here xs i x d h is e = step xs i x h is ∙ ap (λ o. first_of i o (rest (i + 1) (drop (i + 1) xs))) (sym e)

  pub not_here : (xs : List B) (i : ℕ) (x : B) → i < length xs → x ≡ get_or xs i x → None ≡ most_recent r (held (f x)) → resolved_from i r (map held (map f (drop i xs))) ≡ resolved_from (i + 1) r (map held (map f (drop (i + 1) xs)))
  unfolding first_of rest
  not_here xs i x h is e = step xs i x h is ∙ ap (λ o. first_of i o (rest (i + 1) (drop (i + 1) xs))) (sym e)

  pub nowhere : (xs : List B) (i : ℕ) → length xs ≤ i → resolved_from i r (map held (map f (drop i xs))) ≡ None
  nowhere xs i h = ap (λ ys. resolved_from i r (map held (map f ys))) (drop_all i xs h)

module _ {B : Type 0} (f : B → Slots) where
  -- one module more
  pub count_more : (xs : List B) (i : ℕ) (x : B) → i < length xs → x ≡ get_or xs i x → document_count (map held (map f (take (i + 1) xs))) ≡ document_count (map held (map f (take i xs))) + len (held (f x))
  count_more xs i x h is =
      ap (λ ys. document_count (map held ys)) (map_more f xs i x h ∙ ap (λ y. map f (take i xs) ++ f y ∷ []) (sym is))
      ∙ ap document_count (map-append held (map f (take i xs)) (f x ∷ [])) ∙ sum_by-append len (map held (map f (take i xs))) (held (f x) ∷ [])
      ∙ ap (λ n. document_count (map held (map f (take i xs))) + n) (zero-add (len (held (f x))))

  -- all of them
  pub count_all : (xs : List B) (i : ℕ) → length xs ≤ i → document_count (map held (map f (take i xs))) ≡ document_count (map held (map f xs))
  count_all xs i h = ap (λ ys. document_count (map held (map f ys))) (take_all i xs h)
