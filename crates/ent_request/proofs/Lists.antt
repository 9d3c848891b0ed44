-- Lists, whatever they are of: one item more, and what holds of all.
use Rattle.std.proofs.Common.{◌≡◌, ℕ, ◌+◌, ◌<◌, List, ◌∷◌, length, drop, get_or, suc, sym, ap, add-one, drop-cons, [], ◌++◌, ◌≤◌, take, ◌∙◌}
use Rattle.std.specs.List.{AllByRecursion, All, flat_map}
use Rattle.std.proofs.lemmas.List.Elements.{All-nil, All-cons}
use Rattle.std.specs.Prelude.{fold}
use Rattle.std.specs.Hash.{fed_then}
use Rattle.std.proofs.lemmas.List.{append-nil, take_more, take_all}
use Rattle.std.proofs.lemmas.List.Concat.{flat_map-append}

pub at_item : {A : Type 0} (xs : List A) (i : ℕ) (x : A) → i < length xs → x ≡ get_or xs i x → drop i xs ≡ x ∷ drop (i + 1) xs
at_item xs i x h is = rw (add-one, drop-cons xs i x h) (ap (λ y. y ∷ drop (suc i) xs) (sym is))

pub first_looks : {X : Type 0} (P : X → Type 0) (ks ls : List X) → AllByRecursion P (ks ++ ls) → AllByRecursion P ks
first_looks P [] ls h = tt
first_looks P (k ∷ ks) ls h = (h.0, first_looks P ks ls h.1)

pub later_looks : {X : Type 0} (P : X → Type 0) (ks ls : List X) → AllByRecursion P (ks ++ ls) → AllByRecursion P ls
later_looks P [] ls h = h
later_looks P (k ∷ ks) ls h = later_looks P ks ls h.1

pub from_recursion : {X : Type 0} (P : X → Type 0) (xs : List X) → AllByRecursion P xs → All P xs
from_recursion P [] h = All-nil P
from_recursion P (x ∷ xs) h = All-cons P x xs h.0 (from_recursion P xs h.1)

pub all_append : {A : Type 0} (P : A → Type 0) (xs ys : List A) → AllByRecursion P xs → AllByRecursion P ys → AllByRecursion P (xs ++ ys)
all_append P [] ys first second = second
all_append P (x ∷ xs) ys first second = (first.0, all_append P xs ys first.1 second)

module _ {A S : Type 0} (write : S → List ℕ → S) (writes : A → List (List ℕ)) where
  pub fed_next : (items : List A) (i : ℕ) (x : A) (s t u : S) → i < length items → x ≡ get_or items i x → t ≡ fold write s (flat_map writes (take i items)) → u ≡ fold write t (writes x)
      → u ≡ fold write s (flat_map writes (take (i + 1) items))
  fed_next items i x s t u below read before fed =
      let first = take i items in
      let all : flat_map writes first ++ writes x ≡ flat_map writes (take (i + 1) items) =
      ap (λ ws. flat_map writes first ++ ws) (sym (append-nil (writes x))) ∙ sym (flat_map-append writes first (x ∷ []))
      ∙ ap (λ y. flat_map writes (first ++ y ∷ [])) read ∙ ap (flat_map writes) (sym (take_more items i x below)) in
      fed_then write s t u (flat_map writes first) (writes x) before fed ∙ ap (fold write s) all

  pub fed_all : (items : List A) (i : ℕ) (s t : S) → length items ≤ i → t ≡ fold write s (flat_map writes (take i items)) → t ≡ fold write s (flat_map writes items)
  fed_all items i s t past is = is ∙ ap (λ xs. fold write s (flat_map writes xs)) (take_all i items past)
