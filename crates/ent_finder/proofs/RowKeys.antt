-- The order of rows by their keys, and by what a key names.
use Rattle.std.proofs.Common.{◌≡◌, ℕ, true, List, Option, Some, None, refl, sym, ap, ◌∙◌, subst}
use Rattle.std.specs.Cmp.{IsTotalOrder, both_tied, eq_by_cmp_equiv, on_total, then_total}
use Rattle.std.specs.Cmp.Lexicographic.{nat_list_cmp_total, options_total, slice_cmp}
use Rattle.std.specs.FinMap.{IsAntisymmetric}
use Rattle.std.specs.Option.{option_cmp}
use Rattle.std.specs.Ordering.{is_eq, is_gt, nat_cmp, ordering_then}
use Rattle.std.specs.declared.cmp.Ordering.{Ordering}
use Rattle.ent_values.proofs.Values.{same_type-Decides}
use Rattle.ent_values.specs.Same.{same_type}
use Rattle.ent_values.specs.contracts.datatype.DataTypeOrd.TheImpl.Laws.{matches_eq-law, total-law}
use Rattle.ent_values.specs.declared.datatype.DataType.{DataType}
use Rattle.ent_finder.proofs.Orders.{lists_same, options_same, texts_tied, then_assoc, then_equal, then_less, then_none, tied}
use Rattle.ent_finder.proofs.Ranges.{Rises, rises_with}
use Rattle.ent_finder.proofs.Sorted.{equal}
use Rattle.ent_finder.specs.Looking.{is_wanted, names_row}
use Rattle.ent_finder.specs.proofs_only.Order.{issuer_cmp, named_cmp}
use Rattle.ent_values.specs.Order.{type_cmp}
use Rattle.ent_finder.specs.RowEntry.{RowsAreSorted, row_entry}
use Rattle.ent_finder.specs.Rows.{row_cmp}
use Rattle.ent_finder.proofs.Totals.{row_cmp_total}
use Rattle.ent_finder.specs.declared.row.AttrKey.{AttrKey}
use Rattle.ent_finder.specs.declared.row.Row.{Row}
use Rattle.ent_finder.specs.declared.row.RowKey.{RowKey}

-- ---- only equal keys tie

types_same : IsAntisymmetric type_cmp
types_same a b e = (same_type-Decides a b).0 (matches_eq-law a b ∙ ap is_eq e)

types_tied : (a b : DataType) → same_type b a ≡ is_eq (type_cmp a b)
types_tied = tied total-law types_same same_type same_type-Decides

abbrev texts_cmp : List ℕ → List ℕ → Ordering
texts_cmp = slice_cmp nat_cmp

abbrev issuers_cmp : Option (List ℕ) → Option (List ℕ) → Ordering
issuers_cmp = option_cmp (slice_cmp nat_cmp)

pub row_cmp_antisymmetric : IsAntisymmetric row_cmp
row_cmp_antisymmetric x y e =
    let issuers = issuers_cmp x.issuer y.issuer in
    let types = ordering_then (type_cmp x.datatype y.datatype) issuers in
    let attributes = ordering_then (texts_cmp x.attribute y.attribute) types in
    let entities = ordering_then (texts_cmp x.entity y.entity) attributes in
    let p = then_equal (texts_cmp x.category y.category) entities e in
    let q = then_equal (texts_cmp x.entity y.entity) attributes p.1 in
    let r = then_equal (texts_cmp x.attribute y.attribute) types q.1 in
    let s = then_equal (type_cmp x.datatype y.datatype) issuers r.1 in
    let category = lists_same x.category y.category p.0 in
    let entity = lists_same x.entity y.entity q.0 in
    let attribute = lists_same x.attribute y.attribute r.0 in
    let datatype = types_same x.datatype y.datatype s.0 in
    let issuer = options_same lists_same x.issuer y.issuer s.1 in
    λ t. record { category = category t; entity = entity t; attribute = attribute t; datatype = datatype t; issuer = issuer t }

-- ---- a key without its issuer, and with it

-- category, entity, attribute and type
abbrev pub Front : Type 0
Front = ((List ℕ × List ℕ) × List ℕ) × DataType

abbrev front_cmp : Front → Front → Ordering
front_cmp a b = ordering_then (ordering_then (ordering_then (texts_cmp a.0.0.0 b.0.0.0) (texts_cmp a.0.0.1 b.0.0.1)) (texts_cmp a.0.1 b.0.1)) (type_cmp a.1 b.1)

abbrev whole_cmp : Front × Option (List ℕ) → Front × Option (List ℕ) → Ordering
whole_cmp a b = ordering_then (front_cmp a.0 b.0) (issuers_cmp a.1 b.1)

abbrev front : RowKey → Front
front k = (((k.category, k.entity), k.attribute), k.datatype)

abbrev whole : RowKey → Front × Option (List ℕ)
whole k = (front k, k.issuer)

abbrev front_wanted : AttrKey → Front
front_wanted k = (((k.category, k.entity), k.attribute), k.datatype)

front_total : IsTotalOrder front_cmp
front_total =
    then_total (then_total (then_total (on_total (λ (f : Front). f.0.0.0) nat_list_cmp_total) (on_total (λ (f : Front). f.0.0.1) nat_list_cmp_total)) (on_total (λ (f : Front). f.0.1) nat_list_cmp_total)) (on_total (λ (f : Front). f.1) total-law)

whole_total : IsTotalOrder whole_cmp
whole_total = then_total (on_total (λ (w : Front × Option (List ℕ)). w.0) front_total) (on_total (λ (w : Front × Option (List ℕ)). w.1) (options_total nat_list_cmp_total))

regroup : (a b c d e : Ordering) → ordering_then (ordering_then (ordering_then (ordering_then a b) c) d) e ≡ ordering_then a (ordering_then b (ordering_then c (ordering_then d e)))
regroup a b c d e = then_assoc (ordering_then (ordering_then a b) c) d e ∙ then_assoc (ordering_then a b) c (ordering_then d e) ∙ then_assoc a b (ordering_then c (ordering_then d e))

whole_is : (x y : RowKey) → whole_cmp (whole x) (whole y) ≡ row_cmp x y
whole_is x y = regroup (texts_cmp x.category y.category) (texts_cmp x.entity y.entity) (texts_cmp x.attribute y.attribute) (type_cmp x.datatype y.datatype) (issuers_cmp x.issuer y.issuer)

-- ---- rows rise towards those that a key names

pub rows_rise : (rs : List Row) (key : AttrKey) → RowsAreSorted rs → Rises (λ r. named_cmp r.key key) rs
rows_rise rs key sorted = by key.issuer
  where
    by : (wanted : Option (List ℕ)) → Rises (λ r. ordering_then (front_cmp (front r.key) (front_wanted key)) (issuer_cmp r.key.issuer wanted)) rs
    by None =
        subst (λ (order : Row → Ordering). Rises order rs) (λ t r. sym (then_none (front_cmp (front r.key) (front_wanted key))) t)
        (rises_with row_cmp row_entry front_total (λ (r : Row). front r.key) (λ x y less. then_less (front_cmp (front x.key) (front y.key)) (issuers_cmp x.key.issuer y.key.issuer) (whole_is x.key y.key ∙ less)) rs sorted (front_wanted key))
    by (Some wanted) =
        rises_with row_cmp row_entry whole_total (λ (r : Row). whole r.key) (λ x y less. ap is_gt (whole_is x.key y.key ∙ less)) rs sorted (front_wanted key, Some wanted)

-- ---- a key names the rows that tie with it

issuers_tied : (wanted issuer : Option (List ℕ)) → is_wanted wanted issuer ≡ is_eq (issuer_cmp issuer wanted)
issuers_tied None issuer = refl
issuers_tied (Some wanted) None = refl
issuers_tied (Some wanted) (Some issuer) = texts_tied issuer wanted

pub row_tied : (key : AttrKey) (k : RowKey) → is_eq (named_cmp k key) ≡ names_row key k
row_tied key k =
    let categories = texts_cmp k.category key.category in
    let entities = texts_cmp k.entity key.entity in
    let attributes = texts_cmp k.attribute key.attribute in
    let types = type_cmp k.datatype key.datatype in
    let issuers = issuer_cmp k.issuer key.issuer in
    ap is_eq (regroup categories entities attributes types issuers)
    ∙ sym (both_tied _ _ categories _ (texts_tied k.category key.category)
    (both_tied _ _ entities _ (texts_tied k.entity key.entity)
    (both_tied _ _ attributes _ (texts_tied k.attribute key.attribute)
    (both_tied _ _ types issuers (types_tied k.datatype key.datatype) (issuers_tied key.issuer k.issuer)))))

-- the type of a row that a key names
pub type_named : (key : AttrKey) (k : RowKey) → names_row key k ≡ true → k.datatype ≡ key.datatype
type_named key k named =
    let p = then_equal (front_cmp (front k) (front_wanted key)) (issuer_cmp k.issuer key.issuer) (equal _ (row_tied key k ∙ named)) in
    types_same k.datatype key.datatype (then_equal (ordering_then (ordering_then (texts_cmp k.category key.category) (texts_cmp k.entity key.entity)) (texts_cmp k.attribute key.attribute)) (type_cmp k.datatype key.datatype) p.0).1

-- ---- a key with an issuer names one row

abbrev row_wanted : AttrKey → RowKey
row_wanted key = record { category = key.category; entity = key.entity; attribute = key.attribute; datatype = key.datatype; issuer = key.issuer }

one_wanted : (wanted issuer : Option (List ℕ)) (i : List ℕ) → wanted ≡ Some i → issuer_cmp issuer wanted ≡ issuers_cmp issuer wanted
one_wanted None issuer i is = cc
one_wanted (Some wanted) issuer i is = refl

named_as_row : (key : AttrKey) (k : RowKey) (issuer : List ℕ) → key.issuer ≡ Some issuer → names_row key k ≡ is_eq (row_cmp k (row_wanted key))
named_as_row key k issuer is =
    sym (row_tied key k) ∙ ap (λ o. is_eq (ordering_then (front_cmp (front k) (front_wanted key)) o)) (one_wanted key.issuer k.issuer issuer is) ∙ ap is_eq (whole_is k (row_wanted key))

pub names_one : (key : AttrKey) (row k : RowKey) (issuer : List ℕ) → key.issuer ≡ Some issuer → names_row key row ≡ true → names_row key k ≡ is_eq (row_cmp row k)
names_one key row k issuer is named =
    let same : row ≡ row_wanted key = row_cmp_antisymmetric row (row_wanted key) (equal _ (sym (named_as_row key row issuer is) ∙ named)) in
    named_as_row key k issuer is ∙ ap (λ (w : RowKey). is_eq (row_cmp k w)) (sym same) ∙ (eq_by_cmp_equiv row_cmp_total).symm k row
