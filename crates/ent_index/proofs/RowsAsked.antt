-- The keys that name a row, among keys in their order.
use Rattle.std.proofs.Common.{◌≡◌, ℕ, Bool, true, false, cond, ◌||◌, T, List, [], ◌∷◌, ◌++◌, ◌⊎◌, if◌then◌else◌, inl, inr, is_some, Option, Some, None, refl, sym, ap, ◌∙◌}
use Rattle.std.specs.Cmp.{IsTotalOrder}
use Rattle.std.specs.Cmp.Lexicographic.{nat_list_cmp_total, slice_cmp}
use Rattle.ent_values.specs.contracts.datatype.DataTypeOrd.TheImpl.Laws.{total-law}
use Rattle.std.specs.FinMap.{IsAntisymmetric, entries, entries_sorted, find, get-entries, is_sorted, keys}
use Rattle.std.specs.FinMap.Entries.{below_all}
use Rattle.std.specs.List.{filter}
use Rattle.std.specs.Map.{keys_of}
use Rattle.std.specs.Ordering.{is_eq, nat_cmp, ordering_then}
use Rattle.std.specs.Str.{bytes_eq}
use Rattle.std.specs.declared.cmp.Ordering.{Ordering}
use Rattle.std.specs.declared.cmp.Ordering.TheVariants.{Less, Equal}
use Rattle.std.proofs.lemmas.Bool.{and_from, and_parts, or_cases}
use Rattle.std.proofs.lemmas.Cmp.{tied_itself}
use Rattle.std.proofs.lemmas.Slice.Eq.{bytes_eq-Decides}
use Rattle.ent_values.proofs.Values.{same_type-Decides}
use Rattle.ent_values.specs.Same.{same_type}
use Rattle.ent_finder.proofs.Sorted.{equal, first, none_below, none_tied, second}
use Rattle.ent_finder.specs.Looking.{is_wanted, names_row}
use Rattle.ent_finder.specs.declared.row.AttrKey.{AttrKey}
use Rattle.ent_finder.specs.declared.row.RowKey.{RowKey}
use Rattle.ent_request.proofs.Keys.{read_cmp-IsAntisymmetric}
use Rattle.ent_request.specs.Noted.{read_cmp}
use Rattle.ent_request.specs.declared.key.ReadKey.{ReadKey}
use Rattle.ent_request.specs.declared.key.ReadKey.TheVariants.{Attr, CurrentDate, CurrentDateTime, CurrentTime, Ref, Root}
use Rattle.ent_index.proofs.Views.{key_itself, read_cmp-total, same_key}
use Rattle.ent_index.specs.Asked.{asks_row}
use Rattle.ent_index.specs.Index.{ReadIndex}
use Rattle.ent_index.specs.proofs_only.Steps.{is_read}

-- ---- one key or two of a list

abbrev pub picked : {K : Type 0} → Bool → K → List K
picked t k = if t then k ∷ [] else []

module _ {K X : Type 0} {R : K → K → Ordering} (o : IsTotalOrder R) (same : IsAntisymmetric R) (a : K) where
  pub one_asked : (p : K → Bool) → ((k : K) → p k ≡ is_eq (R a k)) → (es : List (K × X)) → T (is_sorted R es) → filter p (keys_of es) ≡ picked (is_some (find R a es)) a
  one_asked p is [] s = refl
  one_asked p is (e ∷ es) s = ap (λ t. cond t (e.0 ∷ filter p (keys_of es)) (filter p (keys_of es))) (is e.0) ∙ by (is_eq (R a e.0)) refl (one_asked p is es (second (below_all R e.0 es) (is_sorted R es) s))
    where
      by : (t : Bool) → is_eq (R a e.0) ≡ t → filter p (keys_of es) ≡ picked (is_some (find R a es)) a → cond t (e.0 ∷ filter p (keys_of es)) (filter p (keys_of es)) ≡ picked (is_some (cond t (Some e.1) (find R a es))) a
      by true tie rest =
          let none = none_tied o a e.0 es (equal _ tie) (first (below_all R e.0 es) (is_sorted R es) s) in
          (λ i. sym (same a e.0 (equal _ tie)) i ∷ (rest ∙ ap (λ f. picked (is_some f) a) none) i)
      by false tie rest = rest

  module _ (b : K) (lt : R a b ≡ Less) (p : K → Bool) (is : (k : K) → p k ≡ (is_eq (R a k) || is_eq (R b k))) where
    pub two_asked : (es : List (K × X)) → T (is_sorted R es) → filter p (keys_of es) ≡ picked (is_some (find R a es)) a ++ picked (is_some (find R b es)) b
    two_asked [] s = refl
    two_asked (e ∷ es) s = ap (λ t. cond t (e.0 ∷ filter p (keys_of es)) (filter p (keys_of es))) (is e.0) ∙ by (is_eq (R a e.0)) (is_eq (R b e.0)) refl refl (two_asked es (second (below_all R e.0 es) (is_sorted R es) s))
      where
        below : T (below_all R e.0 es)
        below = first (below_all R e.0 es) (is_sorted R es) s

        by : (t u : Bool) → is_eq (R a e.0) ≡ t → is_eq (R b e.0) ≡ u → filter p (keys_of es) ≡ picked (is_some (find R a es)) a ++ picked (is_some (find R b es)) b
            → cond (t || u) (e.0 ∷ filter p (keys_of es)) (filter p (keys_of es)) ≡ picked (is_some (cond t (Some e.1) (find R a es))) a ++ picked (is_some (cond u (Some e.1) (find R b es))) b
        by true true ea eb rest =
            let here : a ≡ b = same a e.0 (equal _ ea) ∙ sym (same b e.0 (equal _ eb)) in
            absurd (let bad : Less ≡ Equal = sym lt ∙ ap (λ x. R x b) here ∙ tied_itself o b in cc)
        by true false ea eb rest =
            let none = none_tied o a e.0 es (equal _ ea) below in
            (λ i. sym (same a e.0 (equal _ ea)) i ∷ (rest ∙ ap (λ f. picked (is_some f) a ++ picked (is_some (find R b es)) b) none) i)
        by false true ea eb rest =
            let here : b ≡ e.0 = same b e.0 (equal _ eb) in
            let no_a = none_below o a e.0 es (ap (R a) (sym here) ∙ lt) below in
            let no_b = none_tied o b e.0 es (equal _ eb) below in
            (λ i. sym here i ∷ (rest ∙ (λ j. picked (is_some (no_a j)) a ++ picked (is_some (no_b j)) b)) i)
            ∙ ap (λ f. picked (is_some f) a ++ b ∷ []) (sym no_a)
        by false false ea eb rest = rest

-- ---- the keys that name a row

abbrev pub given : RowKey → Option (List ℕ) → AttrKey
given row issuer = record { category = row.category; entity = row.entity; attribute = row.attribute; datatype = row.datatype; issuer = issuer }

text_itself : (x : List ℕ) → bytes_eq x x ≡ true
text_itself x = (bytes_eq-Decides x x).1 refl

names_given : (row : RowKey) (issuer : Option (List ℕ)) → is_wanted issuer row.issuer ≡ true → names_row (given row issuer) row ≡ true
names_given row issuer wanted =
    and_from _ _ (text_itself row.category) (and_from _ _ (text_itself row.entity) (and_from _ _ (text_itself row.attribute) (and_from _ _ ((same_type-Decides row.datatype row.datatype).1 refl) wanted)))

-- a key that names a row differs from it by the issuer alone
given_named : (key : AttrKey) (row : RowKey) → names_row key row ≡ true → (key ≡ given row key.issuer) × (is_wanted key.issuer row.issuer ≡ true)
given_named key row h =
    let p = and_parts (bytes_eq key.category row.category) _ h in
    let q = and_parts (bytes_eq key.entity row.entity) _ p.1 in
    let r = and_parts (bytes_eq key.attribute row.attribute) _ q.1 in
    let s = and_parts (same_type key.datatype row.datatype) _ r.1 in
    let category = (bytes_eq-Decides key.category row.category).0 p.0 in
    let entity = (bytes_eq-Decides key.entity row.entity).0 q.0 in
    let attribute = (bytes_eq-Decides key.attribute row.attribute).0 r.0 in
    let datatype = (same_type-Decides key.datatype row.datatype).0 s.0 in
    (λ t. record { category = category t; entity = entity t; attribute = attribute t; datatype = datatype t; issuer = key.issuer }, s.1)

-- two tests that follow from one another
pub alike : (x y : Bool) → (x ≡ true → y ≡ true) → (y ≡ true → x ≡ true) → x ≡ y
alike true y f g = sym (f refl)
alike false true f g = g refl
alike false false f g = refl

-- a key that names a row without issuer is the row's
wanted_none : (o : Option (List ℕ)) → is_wanted o None ≡ true → o ≡ None
wanted_none None h = refl
wanted_none (Some w) h = cc

wanted_some : (o : Option (List ℕ)) (i : List ℕ) → is_wanted o (Some i) ≡ true → (o ≡ None) ⊎ (o ≡ Some i)
wanted_some None i h = inl refl
wanted_some (Some w) i h = inr (ap Some ((bytes_eq-Decides w i).0 h))

module _ (row : RowKey) where
  pub asked_plain : row.issuer ≡ None → (k : ReadKey) → asks_row row k ≡ is_eq (read_cmp (Attr (given row None)) k)
  asked_plain none Root = refl
  asked_plain none (Ref r) = refl
  asked_plain none (Attr key) =
      alike (names_row key row) (is_eq (read_cmp (Attr (given row None)) (Attr key)))
      (λ h. let p = given_named key row h in
      key_itself (Attr (given row None)) (Attr key) (ap Attr (sym (p.0 ∙ ap (given row) (wanted_none key.issuer (ap (is_wanted key.issuer) (sym none) ∙ p.1))))))
      (λ h. ap (asks_row row) (sym (same_key (Attr (given row None)) (Attr key) h)) ∙ names_given row None refl)
  asked_plain none CurrentDate = refl
  asked_plain none CurrentTime = refl
  asked_plain none CurrentDateTime = refl

  pub asked_both : (i : List ℕ) → row.issuer ≡ Some i → (k : ReadKey) → asks_row row k ≡ (is_eq (read_cmp (Attr (given row None)) k) || is_eq (read_cmp (Attr (given row (Some i))) k))
  asked_both i some Root = refl
  asked_both i some (Ref r) = refl
  asked_both i some (Attr key) =
      alike (names_row key row) (is_eq (read_cmp (Attr (given row None)) (Attr key)) || is_eq (read_cmp (Attr (given row (Some i))) (Attr key)))
      (λ h. let p = given_named key row h in
      elim (wanted_some key.issuer i (ap (is_wanted key.issuer) (sym some) ∙ p.1)) [
        | inl none ↦ ap (λ t. t || is_eq (read_cmp (Attr (given row (Some i))) (Attr key))) (key_itself (Attr (given row None)) (Attr key) (ap Attr (sym (p.0 ∙ ap (given row) none))))
        | inr is ↦ or_true (is_eq (read_cmp (Attr (given row None)) (Attr key))) _ (key_itself (Attr (given row (Some i))) (Attr key) (ap Attr (sym (p.0 ∙ ap (given row) is))))
      ])
      (λ h. elim (or_cases (is_eq (read_cmp (Attr (given row None)) (Attr key))) _ h) [
        | inl e ↦ ap (asks_row row) (sym (same_key (Attr (given row None)) (Attr key) e)) ∙ names_given row None refl
        | inr e ↦ ap (asks_row row) (sym (same_key (Attr (given row (Some i))) (Attr key) e)) ∙ names_given row (Some i) (ap (is_wanted (Some i)) some ∙ text_itself i)
      ])
    where
      or_true : (x y : Bool) → y ≡ true → (x || y) ≡ true
      or_true true y h = refl
      or_true false y h = h
  asked_both i some CurrentDate = refl
  asked_both i some CurrentTime = refl
  asked_both i some CurrentDateTime = refl

-- ---- the keys of an index

abbrev read_pick : ReadIndex → ReadKey → List ReadKey
read_pick index k = if is_read index k then k ∷ [] else []

found_read : (index : ReadIndex) (k : ReadKey) → is_some (find read_cmp k (entries index)) ≡ is_read index k
found_read index k = ap is_some (sym (get-entries index k))

pub row_plain : (index : ReadIndex) (row : RowKey) → row.issuer ≡ None → filter (asks_row row) (keys index) ≡ read_pick index (Attr (given row None))
row_plain index row none =
    one_asked read_cmp-total read_cmp-IsAntisymmetric (Attr (given row None)) (asks_row row) (asked_plain row none) (entries index) (entries_sorted index)
    ∙ ap (λ t. picked t (Attr (given row None))) (found_read index (Attr (given row None)))

texts_less : (row : RowKey) (i : List ℕ) → read_cmp (Attr (given row None)) (Attr (given row (Some i))) ≡ Less
texts_less row i =
    let text : (x : List ℕ) → slice_cmp nat_cmp x x ≡ Equal = λ x. tied_itself nat_list_cmp_total x in
    let datatype = tied_itself total-law row.datatype in
    λ j. ordering_then (text row.category j) (ordering_then (text row.entity j) (ordering_then (text row.attribute j) (ordering_then (datatype j) Less)))

pub row_both : (index : ReadIndex) (row : RowKey) (i : List ℕ) → row.issuer ≡ Some i → filter (asks_row row) (keys index) ≡ read_pick index (Attr (given row None)) ++ read_pick index (Attr (given row (Some i)))
row_both index row i some =
    two_asked read_cmp-total read_cmp-IsAntisymmetric (Attr (given row None)) (Attr (given row (Some i))) (texts_less row i) (asks_row row) (asked_both row i some) (entries index) (entries_sorted index)
    ∙ (λ j. picked (found_read index (Attr (given row None)) j) (Attr (given row None)) ++ picked (found_read index (Attr (given row (Some i))) j) (Attr (given row (Some i))))
