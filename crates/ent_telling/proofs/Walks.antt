-- A walk over entries or modules, of each of which some values are written.
use Rattle.std.proofs.Common.{◌≡◌, ◌++◌, ◌∙◌, ℕ, zero, suc, ◌+◌, ◌<◌, ◌≤◌, List, [], ◌∷◌, Option, Some, None, ap, refl, sym, arith, map, drop, length, append-nil, append_assoc}
use Rattle.std.specs.Prelude.{slice_get, slice_index_or}
use Rattle.std.specs.Borrow.{Bor}
use Rattle.std.specs.List.{enumerate_from, flat_map}
use Rattle.std.specs.Option.{option_copied, option_map}
use Rattle.json.specs.Token as token
use Rattle.json.specs.Token.{Token}
use Rattle.serde_json.specs.Data.{Data}
use Rattle.ent_json.specs.Text.{tokens_of}
use Rattle.ent_json.specs.proofs_only.Text.{items_tokens_of}
use Rattle.ent_telling.specs.proofs_only.Walk.{each_tokens}

-- ---- what is left of a list

at_place : {A : Type 0} (xs : List A) (i : ℕ) (x : A) → slice_get xs i ≡ Some x → drop i xs ≡ x ∷ drop (i + 1) xs
at_place [] i x h = cc
at_place (y ∷ xs) zero x h = let same : y ≡ x = cc in ap (λ z. z ∷ xs) same
at_place (y ∷ xs) (suc i) x h = let next : suc i + 1 ≡ suc (i + 1) = omega arith in at_place xs i x h ∙ ap (λ n. x ∷ drop n (y ∷ xs)) (sym next)

past : {A : Type 0} (xs : List A) (i : ℕ) → slice_get xs i ≡ None → drop i xs ≡ []
past [] zero h = refl
past [] (suc i) h = refl
past (y ∷ xs) zero h = cc
past (y ∷ xs) (suc i) h = past xs i h

all_past : {A : Type 0} (xs : List A) (i : ℕ) → length xs ≤ i → drop i xs ≡ []
all_past [] zero h = refl
all_past [] (suc i) h = refl
all_past (y ∷ xs) zero h = absurd (omega (arith, h))
all_past (y ∷ xs) (suc i) h = all_past xs i (omega (arith, h))

next_module : {A : Type 0} (xs : List A) (i : ℕ) (d : A) → i < length xs → drop i xs ≡ slice_index_or xs i d ∷ drop (i + 1) xs
next_module [] i d h = absurd (omega (arith, h))
next_module (y ∷ xs) zero d h = refl
next_module (y ∷ xs) (suc i) d h =
    let next : suc i + 1 ≡ suc (i + 1) = omega arith in next_module xs i d (omega (arith, h)) ∙ ap (λ n. slice_index_or xs i d ∷ drop n (y ∷ xs)) (sym next)

-- ---- values

each-append : (ds es : List Data) → each_tokens (ds ++ es) ≡ each_tokens ds ++ each_tokens es
each-append [] es = refl
each-append (d ∷ ds) es = ap (λ ts. tokens_of d ++ ts) (each-append ds es) ∙ sym (append_assoc (tokens_of d) (each_tokens ds) (each_tokens es))

-- some more are written, behind those in front
written_on : (out new total : List Token) (ds es : List Data) → new ≡ out ++ each_tokens ds → out ++ each_tokens (ds ++ es) ≡ total
    → new ++ each_tokens es ≡ total
written_on out new total ds es put so_far =
    ap (λ ts. ts ++ each_tokens es) put ∙ append_assoc out (each_tokens ds) (each_tokens es) ∙ ap (λ ts. out ++ ts) (sym (each-append ds es)) ∙ so_far

-- one more entry of a walk
pub walked_on : {A : Type 0} (f : A → List Data) (xs : List A) (i : ℕ) (x : A) (out new total : List Token) → slice_get xs i ≡ Some x
    → new ≡ out ++ each_tokens (f x) → out ++ each_tokens (flat_map f (drop i xs)) ≡ total → new ++ each_tokens (flat_map f (drop (i + 1) xs)) ≡ total
walked_on f xs i x out new total here put so_far =
    written_on out new total (f x) (flat_map f (drop (i + 1) xs)) put (ap (λ ys. out ++ each_tokens (flat_map f ys)) (sym (at_place xs i x here)) ∙ so_far)

ended_with : (out total : List Token) → out ++ each_tokens [] ≡ total → out ≡ total
ended_with out total h = sym (append-nil out) ∙ h

-- the end of a walk
pub walked : {A : Type 0} (f : A → List Data) (xs : List A) (i : ℕ) (out total : List Token) → slice_get xs i ≡ None
    → out ++ each_tokens (flat_map f (drop i xs)) ≡ total → out ≡ total
walked f xs i out total none so_far = ended_with out total (ap (λ ys. out ++ each_tokens (flat_map f ys)) (sym (past xs i none)) ∙ so_far)

pub walked_all : {A : Type 0} (f : A → List Data) (xs : List A) (i : ℕ) (out total : List Token) → length xs ≤ i
    → out ++ each_tokens (flat_map f (drop i xs)) ≡ total → out ≡ total
walked_all f xs i out total most so_far = ended_with out total (ap (λ ys. out ++ each_tokens (flat_map f ys)) (sym (all_past xs i most)) ∙ so_far)

-- ---- modules by their numbers

pub module_on : {A : Type 0} (f : ℕ × A → List Data) (xs : List A) (i : ℕ) (d : A) (out new total : List Token) → i < length xs
    → new ≡ out ++ each_tokens (f (i, slice_index_or xs i d)) → out ++ each_tokens (flat_map f (enumerate_from i (drop i xs))) ≡ total
    → new ++ each_tokens (flat_map f (enumerate_from (i + 1) (drop (i + 1) xs))) ≡ total
module_on f xs i d out new total lt put so_far =
    written_on out new total (f (i, slice_index_or xs i d)) (flat_map f (enumerate_from (i + 1) (drop (i + 1) xs))) put
    (ap (λ ys. out ++ each_tokens (flat_map f (enumerate_from i ys))) (sym (next_module xs i d lt)) ∙ so_far)

pub modules_all : {A : Type 0} (f : ℕ × A → List Data) (xs : List A) (i : ℕ) (out total : List Token) → length xs ≤ i
    → out ++ each_tokens (flat_map f (enumerate_from i (drop i xs))) ≡ total → out ≡ total
modules_all f xs i out total most so_far =
    ended_with out total (ap (λ ys. out ++ each_tokens (flat_map f (enumerate_from i ys))) (sym (all_past xs i most)) ∙ so_far)

-- what is told of each module, from a function of what the module holds
pub numbered : {A B C : Type 0} (told : C → Data) (f : ℕ × B → List C) (g : A → B) (i : ℕ) (xs : List A)
    → map told (flat_map f (enumerate_from i (map g xs))) ≡ flat_map (λ m. map told (f (m.0, g m.1))) (enumerate_from i xs)
numbered told f g i [] = refl
numbered told f g i (x ∷ xs) = both (f (i, g x)) (flat_map f (enumerate_from (i + 1) (map g xs))) ∙ ap (λ ds. map told (f (i, g x)) ++ ds) (numbered told f g (i + 1) xs)
  where
    both : (ys zs : List _) → map told (ys ++ zs) ≡ map told ys ++ map told zs
    both [] zs = refl
    both (y ∷ ys) zs = ap (λ ds. told y ∷ ds) (both ys zs)

-- ---- entries by their place

pub found : {A E : Type 0} (f : A → E) (r : Option (Bor A)) (b : Bor A) (o : Option E) → r ≡ Some b → option_map f (option_copied r) ≡ o → o ≡ Some (f b.now)
found f r b o here is = sym is ∙ ap (λ q. option_map f (option_copied q)) here

pub not_found : {A E : Type 0} (f : A → E) (r : Option (Bor A)) (o : Option E) → r ≡ None → option_map f (option_copied r) ≡ o → o ≡ None
not_found f r o none is = sym is ∙ ap (λ q. option_map f (option_copied q)) none

-- ---- a list

-- the tokens of values, to the end of their list
pub listed : (ds : List Data) → items_tokens_of ds ≡ each_tokens ds ++ token.end_array ∷ []
listed [] = refl
listed (d ∷ ds) = ap (λ ts. tokens_of d ++ ts) (listed ds) ∙ sym (append_assoc (tokens_of d) (each_tokens ds) (token.end_array ∷ []))
