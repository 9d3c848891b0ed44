-- What a file adds.
use Rattle.std.proofs.Common.{◌≡◌, List, [], ◌∷◌, ◌++◌, Bool, true, false, ◌||◌, map, Option, Some, None, refl, sym, ap, ◌∙◌}
use Rattle.std.specs.Prelude.{if◌then◌else◌, is_some, option_map}
use Rattle.std.specs.List.{find, list_any}
use Rattle.std.proofs.lemmas.List.{map-append}
use Rattle.ent_policy.specs.Key.{key_of}
use Rattle.ent_policy.specs.Same.{same_key}
use Rattle.ent_policy.specs.declared.document.Tree.{Tree}
use Rattle.ent_policy.specs.declared.key.DocKey.{DocKey}
use Rattle.lint_links.specs.Filed.{Adds, file_keys}
use Rattle.lint_links.specs.Stored.{has_key, stored_in, with_document}
use Rattle.lint_links.specs.declared.together.Origin.{Origin}
use Rattle.lint_links.specs.declared.together.Together.{Together}

any_key : (files : List Origin) (key : DocKey) → list_any (λ k. same_key k key) (map (λ (f : Origin). f.key) files) ≡ list_any (λ (f : Origin). same_key f.key key) files
any_key [] key = refl
any_key (f ∷ files) key = ap (λ b. same_key f.key key || b) (any_key files key)

-- whether a file has the key of a document
pub key_there : (t : Together) (document : Tree) (key : DocKey) (found : Bool) → key ≡ key_of document → found ≡ list_any (λ (f : Origin). same_key f.key key) t.files.items
    → has_key (file_keys t) document ≡ found
key_there t document key found is there =
    ap (λ k. list_any (λ x. same_key x k) (file_keys t)) (sym is) ∙ any_key t.files.items key ∙ sym there

-- ---- the file of a key

pub some_mapped : {A B : Type 0} (f : A → B) (o : Option A) → is_some o ≡ is_some (option_map f o)
some_mapped f None = refl
some_mapped f (Some x) = refl

-- one is found exactly where the test passes one
pub found_any : {X : Type 0} (test : X → Bool) (xs : List X) → is_some (find test xs) ≡ list_any test xs
found_any test [] = refl
found_any test (x ∷ xs) = at (test x) (found_any test xs) where
  at : (b : Bool) → is_some (find test xs) ≡ list_any test xs → is_some (if b then Some x else find test xs) ≡ (b || list_any test xs)
  at true rest = refl
  at false rest = rest

-- the keys of files and of one more
pub one_key : (t : Together) (all : List Origin) (file : Origin) (document : Tree) → all ≡ t.files.items ++ file ∷ [] → file.key ≡ key_of document
    → map (λ (f : Origin). f.key) all ≡ file_keys t ++ key_of document ∷ []
one_key t all file document is key =
    ap (map (λ (f : Origin). f.key)) is ∙ map-append (λ (f : Origin). f.key) t.files.items (file ∷ []) ∙ ap (λ k. file_keys t ++ k ∷ []) key

-- ---- what is added

pub adds_none : (t : Together) → Adds None false t t
adds_none t = record { stored = refl; keys = refl; told = refl }

pub adds_twice : (t : Together) (document : Tree) → has_key (file_keys t) document ≡ true → Adds (Some document) true t t
adds_twice t document there = record {
  stored = sym (ap (λ (b : Bool). if b then stored_in t.state else with_document (stored_in t.state) document) there);
  keys = sym (ap (λ (b : Bool). if b then file_keys t else file_keys t ++ key_of document ∷ []) there);
  told = sym there;
}

pub adds_new : (t u : Together) (document : Tree) → has_key (file_keys t) document ≡ false → stored_in u.state ≡ with_document (stored_in t.state) document
    → file_keys u ≡ file_keys t ++ key_of document ∷ [] → Adds (Some document) false t u
adds_new t u document absent stored keys = record {
  stored = stored ∙ sym (ap (λ (b : Bool). if b then stored_in t.state else with_document (stored_in t.state) document) absent);
  keys = keys ∙ sym (ap (λ (b : Bool). if b then file_keys t else file_keys t ++ key_of document ∷ []) absent);
  told = sym absent;
}
