-- The documents of the slots that aren't empty.
use Rattle.std.proofs.Common.{◌≡◌, ℕ, ◌+◌, ◌≤◌, true, false, List, [], ◌∷◌, ◌++◌, length, take, Option, Some, None, is_some, slice_get, unwrap_or, refl, sym, ap, ◌∙◌, arith}
use Rattle.std.specs.Borrow.{Bor}
use Rattle.std.specs.FinMap.{entries, entries_sorted, get, get-entries, insert, len, len-entries}
use Rattle.std.specs.List.{filter_map}
use Rattle.std.specs.Option.{option_copied, option_flatten, option_map_or}
use Rattle.std.specs.Ordering.{is_eq}
use Rattle.std.proofs.lemmas.List.{length-append, take_all, take_more}
use Rattle.std.proofs.lemmas.List.Elements.{filter_map-append}
use Rattle.std.proofs.lemmas.Option.{get_or_from_slice_get, slice_get_within}
use Rattle.ent_policy.specs.declared.document.Tree.{Tree}
use Rattle.ent_policy.specs.declared.key.DocKey.{DocKey}
use Rattle.ent_finder.proofs.Keys.{key_cmp_antisymmetric}
use Rattle.ent_finder.proofs.Kept.{entries-keep, get-keep, keep-insert_none, keep-insert_some, keep_restored}
use Rattle.ent_finder.proofs.Sorted.{equal, find_there, none_there}
use Rattle.ent_finder.specs.Finding.{has_document}
use Rattle.ent_finder.specs.proofs_only.Places.{IsPlace, is_at}
use Rattle.ent_finder.specs.Slots.{Slots, document_at, filled_entry, held, key_cmp, with_document}
use Rattle.ent_finder.proofs.Totals.{key_cmp_total}

-- the entries that aren't empty
abbrev pub filled : List (DocKey × Option Tree) → List (DocKey × Tree)
filled = filter_map filled_entry

-- the document that is held under a key
pub get-held : (m : Slots) (k : DocKey) → get (held m) k ≡ document_at m k
get-held = get-keep key_cmp_total (λ (d : Option Tree). d) option_flatten refl (λ d. refl)

pub entries-held : (m : Slots) → entries (held m) ≡ filled (entries m)
entries-held = entries-keep key_cmp_total (λ (d : Option Tree). d) option_flatten refl (λ d. refl) key_cmp_antisymmetric

-- a swap changes the document of one key
pub held-insert : (m : Slots) (k : DocKey) (v : Option Tree) → held (insert m k v) ≡ with_document (held m) k v
held-insert m k None = keep-insert_none key_cmp_total (λ (d : Option Tree). d) option_flatten refl (λ d. refl) key_cmp_antisymmetric m k None refl
held-insert m k (Some d) = keep-insert_some key_cmp_total (λ (d : Option Tree). d) option_flatten refl (λ d. refl) key_cmp_antisymmetric m k (Some d) d refl

-- a second swap restores what was held
pub held_restored : (m : Slots) (k : DocKey) (v : Option Tree) → held (insert (insert m k v) k (document_at m k)) ≡ held m
held_restored m k v = keep_restored key_cmp_total (λ (d : Option Tree). d) option_flatten refl (λ d. refl) key_cmp_antisymmetric m k (document_at m k) v refl

pub flatten_is : (d : Option (Option Tree)) → unwrap_or d None ≡ option_flatten d
flatten_is None = refl
flatten_is (Some d) = refl

-- the document under a key, seen at the key's place
pub document_there : (m : Slots) (k : DocKey) (p : ℕ) (e : DocKey × Option Tree) → IsPlace key_cmp k (entries m) p → slice_get (entries m) p ≡ Some e → is_eq (key_cmp e.0 k) ≡ true → document_at m k ≡ e.1
document_there m k p e at is t =
    ap option_flatten (get-entries m k ∙ find_there key_cmp_total k (entries m) p e at is (equal _ t))

document_nowhere : (m : Slots) (k : DocKey) (p : ℕ) → IsPlace key_cmp k (entries m) p → is_at key_cmp k (entries m) p ≡ false → document_at m k ≡ None
document_nowhere m k p at free =
    ap option_flatten (get-entries m k ∙ none_there key_cmp_total k (entries m) (entries_sorted m) p at free)

pub document_other : (m : Slots) (k : DocKey) (p : ℕ) (e : DocKey × Option Tree) → IsPlace key_cmp k (entries m) p → slice_get (entries m) p ≡ Some e → is_eq (key_cmp e.0 k) ≡ false → document_at m k ≡ None
document_other m k p e at is t =
    document_nowhere m k p at (ap (λ o. option_map_or (λ (x : DocKey × Option Tree). is_eq (key_cmp x.0 k)) o false) is ∙ t)

pub document_past : (m : Slots) (k : DocKey) (p : ℕ) → IsPlace key_cmp k (entries m) p → slice_get (entries m) p ≡ None → document_at m k ≡ None
document_past m k p at is =
    document_nowhere m k p at (ap (λ o. option_map_or (λ (x : DocKey × Option Tree). is_eq (key_cmp x.0 k)) o false) is)

-- whether a document is held is whether there is one under the key
pub held_seen : (m : Slots) (k : DocKey) (r : Option (Bor Tree)) → option_copied r ≡ document_at m k → is_some r ≡ has_document k (held m)
held_seen m k r is = there r ∙ ap is_some is ∙ sym (ap is_some (get-held m k)) where
  there : (r : Option (Bor Tree)) → is_some r ≡ is_some (option_copied r)
  there None = refl
  there (Some d) = refl

-- one entry more
filled_more : (es : List (DocKey × Option Tree)) (i : ℕ) (e : DocKey × Option Tree) → slice_get es i ≡ Some e → length (filled (take (i + 1) es)) ≡ length (filled (take i es)) + length (filled (e ∷ []))
filled_more es i e is =
    let more : take (i + 1) es ≡ take i es ++ e ∷ [] = take_more es i e (slice_get_within es i e is) ∙ ap (λ x. take i es ++ x ∷ []) (get_or_from_slice_get es i e e is) in
    ap (λ xs. length (filled xs)) more ∙ ap length (filter_map-append filled_entry (take i es) (e ∷ [])) ∙ length-append (filled (take i es)) (filled (e ∷ []))

-- it counts if it isn't empty
pub filled_one_more : (es : List (DocKey × Option Tree)) (i : ℕ) (e : DocKey × Option Tree) → slice_get es i ≡ Some e → is_some e.1 ≡ true → length (filled (take (i + 1) es)) ≡ length (filled (take i es)) + 1
filled_one_more es i (k, None) is some = cc
filled_one_more es i (k, Some d) is some = filled_more es i (k, Some d) is

pub filled_no_more : (es : List (DocKey × Option Tree)) (i : ℕ) (e : DocKey × Option Tree) → slice_get es i ≡ Some e → is_some e.1 ≡ false → length (filled (take (i + 1) es)) ≡ length (filled (take i es))
filled_no_more es i (k, None) is none = let more = filled_more es i (k, None) is in omega arith
filled_no_more es i (k, Some d) is none = cc

-- all of them
pub filled_all : (m : Slots) (i : ℕ) → length (entries m) ≤ i → length (filled (take i (entries m))) ≡ len (held m)
filled_all m i h = ap (λ es. length (filled es)) (take_all i (entries m) h) ∙ sym (len-entries (held m) ∙ ap length (entries-held m))
