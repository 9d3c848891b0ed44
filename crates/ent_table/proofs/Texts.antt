-- Names that are kept as `String`s are found by their bytes.
use Rattle.std.proofs.Common.{◌≡◌, ℕ, ◌+◌, List, [], ◌∷◌, ◌++◌, map, nat_eq, Bool, true, false, cond, ◌||◌, if◌then◌else◌, refl, sym, ap, ◌∙◌}
use Rattle.std.specs.Prelude.{String, not, nat_lt, Option, Some, None, is_some, string_bytes}
use Rattle.std.specs.List.{AllByRecursion, IsDistinct, list_any, position, position_or_len}
use Rattle.std.specs.Cmp.Lexicographic.{pointwise}
use Rattle.std.specs.String.{string_eq}
use Rattle.std.proofs.lemmas.List.{length-map, map-append}
use Rattle.indexmap.specs.IndexSet.{insert_key, remove_key}
use Rattle.ent_table.specs.Names.{has_name, texts}
use Rattle.ent_table.specs.proofs_only.Place.{IsAt}
use Rattle.ent_table.proofs.Places.{name_at}

any_of : {A B : Type 0} (p : B → Bool) (f : A → B) (xs : List A) → list_any (λ x. p (f x)) xs ≡ list_any p (map f xs)
any_of p f [] = refl
any_of p f (x ∷ xs) = ap (λ b. p (f x) || b) (any_of p f xs)

first_of : {A B : Type 0} (p : B → Bool) (f : A → B) (xs : List A) → position_or_len (λ x. p (f x)) xs ≡ position_or_len p (map f xs)
first_of p f [] = refl
first_of p f (x ∷ xs) = ap (λ n. if not (p (f x)) then 1 + n else 0) (first_of p f xs)

-- whether one of them has these bytes
pub has_text : {Z : Type 0} (name : List ℕ) (keys : List (String Z)) → list_any (λ k. pointwise nat_eq name (string_bytes k)) keys ≡ has_name name (texts keys)
has_text name keys = any_of (pointwise nat_eq name) string_bytes keys

-- the place of the first that has them
pub text_place : {Z : Type 0} (name : List ℕ) (keys : List (String Z)) → position (λ k. pointwise nat_eq name (string_bytes k)) keys ≡ position (pointwise nat_eq name) (texts keys)
text_place name keys =
    (λ t. if nat_lt (first_of (pointwise nat_eq name) string_bytes keys t) (sym (length-map keys string_bytes) t) then Some (first_of (pointwise nat_eq name) string_bytes keys t) else None)

-- one more, which isn't there yet
pub texts_with : {Z : Type 0} (k : String Z) (keys : List (String Z)) → has_name (string_bytes k) (texts keys) ≡ false → texts (insert_key string_eq keys k) ≡ texts keys ++ string_bytes k ∷ []
texts_with k keys absent =
    ap (λ b. texts (if b then keys else keys ++ k ∷ [])) (has_text (string_bytes k) keys ∙ absent) ∙ map-append string_bytes keys (k ∷ [])

-- one more, with the bytes of a name that isn't there yet
pub texts_more : {Z : Type 0} (k : String Z) (name : List ℕ) (keys : List (String Z)) → string_bytes k ≡ name → has_name name (texts keys) ≡ false → texts (insert_key string_eq keys k) ≡ texts keys ++ name ∷ []
texts_more k name keys is absent = texts_with k keys (ap (λ n. has_name n (texts keys)) is ∙ absent) ∙ ap (λ n. texts keys ++ n ∷ []) is

cond_of : {A B : Type 0} (f : A → B) (b : Bool) (xs ys : List A) → map f (cond b xs ys) ≡ cond b (map f xs) (map f ys)
cond_of f true xs ys = refl
cond_of f false xs ys = refl

removed_of : {A B : Type 0} (p : B → Bool) (f : A → B) (xs : List A) → map f (remove_key (λ x. p (f x)) xs) ≡ remove_key p (map f xs)
removed_of p f [] = refl
removed_of p f (x ∷ xs) =
    cond_of f (p (f x)) xs (x ∷ remove_key (λ y. p (f y)) xs) ∙ ap (λ l. cond (p (f x)) (map f xs) (f x ∷ l)) (removed_of p f xs)

-- one less
pub texts_less : {Z : Type 0} (name : List ℕ) (keys : List (String Z)) → texts (remove_key (λ k. pointwise nat_eq name (string_bytes k)) keys) ≡ remove_key (pointwise nat_eq name) (texts keys)
texts_less name keys = removed_of (pointwise nat_eq name) string_bytes keys

-- where a name stands among them, if it does
pub text_at : {Z : Type 0} (name : List ℕ) (keys : List (String Z)) (o : Option ℕ) → o ≡ position (λ k. pointwise nat_eq name (string_bytes k)) keys → is_some o ≡ list_any (λ k. pointwise nat_eq name (string_bytes k)) keys
    → IsAt name (texts keys) o
text_at name keys None index found = sym (has_text name keys) ∙ sym found
text_at name keys (Some place) index found = name_at name (texts keys) place (sym (text_place name keys) ∙ sym index)

-- ---- names that are distinct

texts_alike : {Z : Type 0} (k : String Z) (keys : List (String Z)) → AllByRecursion (λ y. string_eq k y ≡ false) keys → AllByRecursion (λ y. pointwise nat_eq (string_bytes k) y ≡ false) (texts keys)
texts_alike k [] h = tt
texts_alike k (x ∷ keys) h = (h.0, texts_alike k keys h.1)

pub texts_distinct : {Z : Type 0} (keys : List (String Z)) → IsDistinct string_eq keys → IsDistinct (pointwise nat_eq) (texts keys)
unfolding IsDistinct
texts_distinct [] h = tt
texts_distinct (k ∷ keys) h = (texts_alike k keys h.0, texts_distinct keys h.1)
