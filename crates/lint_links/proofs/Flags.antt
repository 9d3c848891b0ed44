-- What the flags of documents say.
use Rattle.std.proofs.Common.{◌≡◌, ◌∙◌, ◌||◌, ℕ, zero, suc, List, [], ◌∷◌, Bool, true, false, Option, Some, None, ap, sym, refl, get_or, length, map}
use Rattle.std.specs.FinMap.{entries, len, len-entries}
use Rattle.std.specs.List.{list_any}
use Rattle.std.proofs.lemmas.List.{length-map}
use Rattle.ent_policy.specs.declared.document.Tree.{Tree}
use Rattle.ent_policy.specs.declared.key.DocKey.{DocKey}
use Rattle.ent_finder.specs.Slots.{Docs}
use Rattle.lint_links.proofs.Settled.{map_twice}
use Rattle.lint_links.specs.Together.{has_chain, is_endless, leads_to}
use Rattle.lint_links.specs.declared.held.Held.{Held}
use Rattle.lint_links.specs.proofs_only.Rows.{entry_of, flags_after, is_one_set, leads, numbered, rows_lead}

-- lists that are seen alike are seen alike by what that rests on
pub seen_alike : {A B C D : Type 0} (f : A → C) (g : B → C) (F : A → D) (G : B → D) → ((a : A) (b : B) → f a ≡ g b → F a ≡ G b)
    → (xs : List A) (ys : List B) → map f xs ≡ map g ys → map F xs ≡ map G ys
seen_alike f g F G each [] [] e = refl
seen_alike f g F G each [] (y ∷ ys) e = absurd cc
seen_alike f g F G each (x ∷ xs) [] e = absurd cc
seen_alike f g F G each (x ∷ xs) (y ∷ ys) e =
    let head : f x ≡ g y = cc in
    let tail : map f xs ≡ map g ys = cc in
    λ i. each x y head i ∷ seen_alike f g F G each xs ys tail i

any_seen : {A B : Type 0} (f : A → B) (p : B → Bool) (xs : List A) → list_any p (map f xs) ≡ list_any (λ x. p (f x)) xs
any_seen f p [] = refl
any_seen f p (x ∷ xs) = ap (λ b. p (f x) || b) (any_seen f p xs)

any_same : {A : Type 0} (p q : A → Bool) → ((x : A) → p x ≡ q x) → (xs : List A) → list_any p xs ≡ list_any q xs
any_same p q each [] = refl
any_same p q each (x ∷ xs) = λ i. each x i || any_same p q each xs i

-- the test of a document that may not be there
abbrev tested : (Tree → Bool) → Option Tree → Bool
tested p None = false
tested p (Some document) = p document

flag_at : (p : Tree → Bool) (es : List (DocKey × Tree)) (number : ℕ) → get_or (map (λ e. p e.1) es) number false ≡ tested p (numbered es number)
flag_at p [] zero = refl
flag_at p [] (suc number) = refl
flag_at p (e ∷ es) zero = refl
flag_at p (e ∷ es) (suc number) = flag_at p es number

-- one of the documents of these numbers passes the test
row_tested : (p : Tree → Bool) (es : List (DocKey × Tree)) (row : List ℕ) (documents : List Tree) → map (numbered es) row ≡ map Some documents
    → is_one_set (map (λ e. p e.1) es) row ≡ list_any p documents
row_tested p es row documents is =
    any_same (λ number. get_or (map (λ e. p e.1) es) number false) (λ number. tested p (numbered es number)) (flag_at p es) row
    ∙ sym (any_seen (numbered es) (tested p) row) ∙ ap (list_any (tested p)) is ∙ any_seen Some (tested p) documents

-- the flags say in which documents chains begin
pub flags_are : (docs : Docs) (rows : List (List ℕ)) (hops : ℕ) → rows_lead docs rows ≡ leads docs → flags_after rows hops ≡ map (λ e. has_chain docs hops e.1) (entries docs)
flags_are docs rows zero is = seen_alike (map (numbered (entries docs))) (λ e. map Some (leads_to docs e.1)) (λ _. true) (λ _. true) (λ a b e. refl) rows (entries docs) is
flags_are docs rows (suc hops) is =
    ap (λ flags. map (is_one_set flags) rows) (flags_are docs rows hops is)
    ∙ seen_alike (map (numbered (entries docs))) (λ e. map Some (leads_to docs e.1)) (is_one_set (map (λ e. has_chain docs hops e.1) (entries docs))) (λ e. list_any (has_chain docs hops) (leads_to docs e.1))
    (λ row e. row_tested (has_chain docs hops) (entries docs) row (leads_to docs e.1)) rows (entries docs) is

-- there are as many rows as documents
pub as_many : (docs : Docs) (rows : List (List ℕ)) → rows_lead docs rows ≡ leads docs → length rows ≡ len docs
as_many docs rows is =
    sym (length-map rows (map (numbered (entries docs)))) ∙ ap length is ∙ length-map (entries docs) (λ e. map Some (leads_to docs e.1)) ∙ sym (len-entries docs)

pub endless_are : (docs : Docs) (rows : List (List ℕ)) (count : ℕ) → count ≡ length rows → rows_lead docs rows ≡ leads docs → flags_after rows count ≡ map (λ e. is_endless docs e.1) (entries docs)
endless_are docs rows count counted is = ap (flags_after rows) (counted ∙ as_many docs rows is) ∙ flags_are docs rows (len docs) is

-- the rows of all documents
pub rows_all : {A : Type 0} (docs : Docs) (f : A → List ℕ) (rows : List A) (all : List Held) → map entry_of all ≡ entries docs
    → map (λ row. map (numbered (entries docs)) (f row)) rows ≡ map (λ one. map Some (leads_to docs one.document.now)) all → rows_lead docs (map f rows) ≡ leads docs
rows_all docs f rows all listed is =
    map_twice f (map (numbered (entries docs))) rows ∙ is ∙ sym (map_twice entry_of (λ e. map Some (leads_to docs e.1)) all) ∙ ap (map (λ e. map Some (leads_to docs e.1))) listed
