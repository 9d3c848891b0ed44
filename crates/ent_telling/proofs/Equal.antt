-- Equal facts tell equal look-ups.
use Rattle.std.proofs.Common.{◌≡◌, ℕ, List, [], ◌∷◌, Bool, true, false, map, All, Option, Some, None, Result, Ok, refl, sym, ap, ap₂, subst, ◌∙◌, codes}
use Rattle.std.specs.Prelude.{bytes_eq, option_map}
use Rattle.std.specs.Option.{ForSome}
use Rattle.std.proofs.lemmas.List.Elements.{All-cons, All-head, All-nil, All-tail}
use Rattle.std.proofs.lemmas.Slice.Eq.{bytes_eq-Decides}
use Rattle.serde_json.specs.Data as json
use Rattle.serde_json.specs.Data.{Data}
use Rattle.serde_json.specs.View.{items_of}
use Rattle.ent_values.specs.Calendar.{Day, TimeOfDay}
use Rattle.ent_values.specs.ReadBack.{IsRealDay, IsRealMoment, IsRealTime}
use Rattle.ent_values.specs.Types.{datatype_of, type_of, uri_of}
use Rattle.ent_values.specs.declared.datatype.DataType.{DataType}
use Rattle.ent_values.specs.declared.date_time.DateTime.{DateTime}
use Rattle.ent_values.specs.declared.value.Value.{Value}
use Rattle.ent_values.specs.declared.datatype.DataType.TheVariants as types
use Rattle.ent_values.specs.declared.value.Value.TheVariants as values
use Rattle.ent_values.proofs.TypeNames.{names_read_back}
use Rattle.ent_policy.specs.declared.document.Tree.{Tree}
use Rattle.ent_policy.specs.declared.key.Reference.{Reference}
use Rattle.ent_finder.specs.Finding.{found, resolved}
use Rattle.ent_finder.specs.Looking.{looked}
use Rattle.ent_finder.specs.declared.row.AttrKey.{AttrKey}
use Rattle.ent_json.specs.Members.{only_member}
use Rattle.ent_polform.specs.Form.{document_of}
use Rattle.ent_polform.specs.ReadBack.{IsReference}
use Rattle.ent_polform.specs.Reference.{reference_of}
use Rattle.ent_polform.specs.Values.{value_in}
use Rattle.ent_polform.specs.Written.{reference_written, value_written, written}
use Rattle.ent_polform.proofs.BackReferences.{references_back}
use Rattle.ent_polform.proofs.BackValues.{values_back}
use Rattle.ent_polform.proofs.BackWhole.{documents_back}
use Rattle.ent_walk.specs.Answer.{recorded}
use Rattle.ent_request.specs.Environment.{date_in, date_time_in, time_in}
use Rattle.ent_request.specs.Held.{Held, looks_in}
use Rattle.ent_request.specs.SameLook.{IsSameLook}
use Rattle.ent_request.specs.declared.key.ReadKey.{ReadKey}
use Rattle.ent_request.specs.declared.key.ReadKey.TheVariants.{Root, Ref, Attr, CurrentDate, CurrentTime, CurrentDateTime}
use Rattle.ent_walk.proofs.AnswersRest.{answers-rest}
use Rattle.ent_telling.specs.Facts.{fact_data, found_data, known_data, or_null, values_data}
use Rattle.ent_telling.specs.Law.{EqualFactsGiveEqualAnswers, IsShort, IsShortFact, IsShortValue}

-- ---- of JSON

of_only : (key : List ℕ) (a b : Data) → only_member key a ≡ only_member key b → a ≡ b
of_only key a b e = cc

items_same : (xs ys : List Data) → items_of xs ≡ items_of ys → xs ≡ ys
items_same [] [] e = refl
items_same [] (y ∷ ys) e = absurd cc
items_same (x ∷ xs) [] e = absurd cc
items_same (x ∷ xs) (y ∷ ys) e =
    let head : x ≡ y = cc in
    let tail : items_of xs ≡ items_of ys = cc in
    ap₂ (λ (z : Data) (zs : List Data). z ∷ zs) head (items_same xs ys tail)

-- the first key of an object
abbrev first_key : Data → List ℕ
first_key (json.object (json.member key d others)) = key
first_key d = []

never : (b : Bool) → b ≡ true → b ≡ false → ⊥
never b x y = absurd cc

-- objects with other first keys differ
differ : (a b : Data) → bytes_eq (first_key a) (first_key b) ≡ false → a ≡ b → ⊥
differ a b other same =
    never (bytes_eq (first_key a) (first_key b)) (ap (λ d. bytes_eq (first_key a) (first_key d)) (sym same) ∙ (bytes_eq-Decides (first_key a) (first_key a)).1 refl) other

some_same : {A : Type 0} (x y : A) → Some x ≡ Some y → x ≡ y
some_same x y e = cc

ok_same : {A E : Type 0} (r : Result A E) (x y : A) → r ≡ Ok x → r ≡ Ok y → x ≡ y
ok_same r x y p q = cc

-- ---- what reads back

reference_same : (r s : Reference) → IsReference r → IsReference s → reference_written r ≡ reference_written s → r ≡ s
reference_same r s first second e = ok_same (reference_of (reference_written r)) r s (references_back r first) (ap reference_of e ∙ references_back s second)

document_same : (a b : Tree) → IsShort a → IsShort b → written a ≡ written b → a ≡ b
document_same a b first second e = ok_same (document_of (written a)) a b (documents_back a first.0 first.1) (ap document_of e ∙ documents_back b second.0 second.1)

value_same : (datatype : DataType) (v w : Value) → IsShortValue datatype v → IsShortValue datatype w → value_written v ≡ value_written w → v ≡ w
value_same datatype v w first second e =
    some_same v w (sym (values_back v first.1.0 first.1.1) ∙ ap (λ t. value_in t (value_written v)) (first.0 ∙ sym second.0) ∙ ap (value_in (datatype_of w)) e ∙ values_back w second.1.0 second.1.1)

values_same : (datatype : DataType) (vs ws : List Value) → All (IsShortValue datatype) vs → All (IsShortValue datatype) ws → map value_written vs ≡ map value_written ws → vs ≡ ws
values_same datatype [] [] first second e = refl
values_same datatype [] (w ∷ ws) first second e = absurd cc
values_same datatype (v ∷ vs) [] first second e = absurd cc
values_same datatype (v ∷ vs) (w ∷ ws) first second e =
    let head : value_written v ≡ value_written w = cc in
    let tail : map value_written vs ≡ map value_written ws = cc in
    let P = IsShortValue datatype in
    ap₂ (λ (x : Value) (xs : List Value). x ∷ xs) (value_same datatype v w (All-head P v vs first) (All-head P w ws second) head)
    (values_same datatype vs ws (All-tail P v vs first) (All-tail P w ws second) tail)

type_same : (t u : DataType) → uri_of t ≡ uri_of u → t ≡ u
type_same t u e = some_same t u (sym (names_read_back t).0 ∙ ap type_of e ∙ (names_read_back u).0)

-- ---- what may be absent

-- what is written is never null
abbrev not_null : Data → Bool
not_null json.null = false
not_null d = true

same_maybe : {A : Type 0} (write : A → Data) (P : A → Type 0) → ((x : A) → not_null (write x) ≡ true) → ((x y : A) → P x → P y → write x ≡ write y → x ≡ y)
    → (a b : Option A) → ForSome a P → ForSome b P → or_null write a ≡ or_null write b → a ≡ b
same_maybe write P full same None None first second e = refl
same_maybe write P full same None (Some y) first second e = absurd (never (not_null (write y)) (full y) (ap not_null (sym e)))
same_maybe write P full same (Some x) None first second e = absurd (never (not_null (write x)) (full x) (ap not_null e))
same_maybe write P full same (Some x) (Some y) first second e = ap Some (same x y (first x refl) (second y refl) e)

reference_there : (r : Reference) → not_null (reference_written r) ≡ true
unfolding reference_written
reference_there r = refl

same_root : (a b : Option Reference) → ForSome a IsReference → ForSome b IsReference → or_null reference_written a ≡ or_null reference_written b → a ≡ b
same_root = same_maybe reference_written IsReference reference_there reference_same

-- ---- documents

module _ (r s : Reference) where
  references_of : (a b : Data) → json.object (json.member (codes "found") a (json.member (codes "reference") (reference_written r) json.no_members))
      ≡ json.object (json.member (codes "found") b (json.member (codes "reference") (reference_written s) json.no_members)) → (a ≡ b) × (reference_written r ≡ reference_written s)
  references_of a b e = (cc, cc)

found_same : (x y : ℕ × Tree) → IsShort x.1 → IsShort y.1 → found_data true x ≡ found_data true y → x.1 ≡ y.1
found_same x y first second e =
    let told : written x.1 ≡ written y.1 = cc in
    document_same x.1 y.1 first second told

same_found : (a b : Option (ℕ × Tree)) → ForSome (option_map (λ x. x.1) a) IsShort → ForSome (option_map (λ x. x.1) b) IsShort
    → or_null (found_data true) a ≡ or_null (found_data true) b → option_map (λ x. x.1) a ≡ option_map (λ x. x.1) b
same_found None None first second e = refl
same_found None (Some y) first second e = absurd cc
same_found (Some x) None first second e = absurd cc
same_found (Some x) (Some y) first second e = ap Some (found_same x y (first x.1 refl) (second y.1 refl) e)

same_resolved : (one other : Held) (r s : Reference) → IsShortFact one (Ref r) → IsShortFact other (Ref s) → fact_data true one (Ref r) ≡ fact_data true other (Ref s)
    → found r one.modules ≡ found r other.modules
same_resolved one other r s first second e =
    let parts = references_of r s (or_null (found_data true) (resolved r one.modules)) (or_null (found_data true) (resolved s other.modules)) e in
    let same : r ≡ s = reference_same r s first.0 second.0 parts.1 in
    same_found (resolved r one.modules) (resolved s other.modules) first.1 second.1 parts.0 ∙ ap (λ x. found x other.modules) (sym same)

-- ---- rows

key_same : (k l : AttrKey) → k.category ≡ l.category → k.entity ≡ l.entity → k.attribute ≡ l.attribute → k.datatype ≡ l.datatype → k.issuer ≡ l.issuer → k ≡ l
key_same k l a b c d e = λ i. record { category = a i; entity = b i; attribute = c i; datatype = d i; issuer = e i }

issuer_same : (a b : Option (List ℕ)) → or_null json.string a ≡ or_null json.string b → a ≡ b
issuer_same None None e = refl
issuer_same None (Some t) e = absurd cc
issuer_same (Some s) None e = absurd cc
issuer_same (Some s) (Some t) e =
    let same : s ≡ t = cc in
    ap Some same

row_same : (k l : AttrKey) (vs ws : List Value) → values_data k vs ≡ values_data l ws → (k ≡ l) × (map value_written vs ≡ map value_written ws)
row_same k l vs ws e =
    let attribute : k.attribute ≡ l.attribute = cc in
    let category : k.category ≡ l.category = cc in
    let datatype : uri_of k.datatype ≡ uri_of l.datatype = cc in
    let entity : k.entity ≡ l.entity = cc in
    let issuer : or_null json.string k.issuer ≡ or_null json.string l.issuer = cc in
    let values : items_of (map value_written vs) ≡ items_of (map value_written ws) = cc in
    (key_same k l category entity attribute (type_same k.datatype l.datatype datatype) (issuer_same k.issuer l.issuer issuer), items_same (map value_written vs) (map value_written ws) values)

same_row : (one other : Held) (k l : AttrKey) → IsShortFact one (Attr k) → IsShortFact other (Attr l) → fact_data true one (Attr k) ≡ fact_data true other (Attr l)
    → looked k one.sources ≡ looked k other.sources
same_row one other k l first second e =
    let parts = row_same k l (looked k one.sources) (looked l other.sources) e in
    let short : All (IsShortValue k.datatype) (looked l other.sources) = subst (λ (x : AttrKey). All (IsShortValue x.datatype) (looked l other.sources)) (sym parts.0) second in
    values_same k.datatype (looked k one.sources) (looked l other.sources) first short parts.1 ∙ ap (λ x. looked x other.sources) (sym parts.0)

-- ---- the time

written_there : (v : Value) → not_null (value_written v) ≡ true
unfolding value_written
written_there (values.Text text) = refl
written_there (values.Boolean boolean) = refl
written_there (values.Integer integer) = refl
written_there (values.Date date) = refl
written_there (values.AnyUri uri) = refl
written_there (values.YearMonth duration) = refl
written_there (values.Time time) = refl
written_there (values.DateTime moment) = refl

-- of what is known, at its key
known_same : {A : Type 0} (key : List ℕ) (kind : A → Value) (P : A → Type 0) → ((x y : A) → P x → P y → value_written (kind x) ≡ value_written (kind y) → x ≡ y)
    → (a b : Option A) → ForSome a P → ForSome b P → known_data key kind a ≡ known_data key kind b → a ≡ b
known_same key kind P same None None first second e = refl
known_same key kind P same None (Some y) first second e = absurd (never (not_null (value_written (kind y))) (written_there (kind y)) (ap not_null (sym (of_only key json.null (value_written (kind y)) e))))
known_same key kind P same (Some x) None first second e = absurd (never (not_null (value_written (kind x))) (written_there (kind x)) (ap not_null (of_only key (value_written (kind x)) json.null e)))
known_same key kind P same (Some x) (Some y) first second e = ap Some (same x y (first x refl) (second y refl) (of_only key (value_written (kind x)) (value_written (kind y)) e))

day_same : (x y : Day) → IsRealDay x → IsRealDay y → value_written (values.Date x) ≡ value_written (values.Date y) → x ≡ y
day_same x y first second e =
    let same : values.Date x ≡ values.Date y = value_same types.Date (values.Date x) (values.Date y) (refl, (first, tt)) (refl, (second, tt)) e in
    cc

time_same : (x y : TimeOfDay) → IsRealTime x → IsRealTime y → value_written (values.Time x) ≡ value_written (values.Time y) → x ≡ y
time_same x y first second e =
    let same : values.Time x ≡ values.Time y = value_same types.Time (values.Time x) (values.Time y) (refl, (first, tt)) (refl, (second, tt)) e in
    cc

moment_same : (x y : DateTime) → IsRealMoment x → IsRealMoment y → value_written (values.DateTime x) ≡ value_written (values.DateTime y) → x ≡ y
moment_same x y first second e =
    let same : values.DateTime x ≡ values.DateTime y = value_same types.DateTime (values.DateTime x) (values.DateTime y) (refl, (first, tt)) (refl, (second, tt)) e in
    cc

-- ---- look-ups

-- an equal fact tells that what it tells is looked up with the same
same_fact : (one other : Held) (k l : ReadKey) → IsShortFact one k → IsShortFact other l → fact_data true one k ≡ fact_data true other l
    → IsSameLook (looks_in one) (looks_in other) k
same_fact one other Root Root first second e = same_root one.root other.root first second (of_only (codes "root") _ _ e)
same_fact one other Root (Ref s) first second e = absurd (differ (fact_data true one Root) (fact_data true other (Ref s)) refl e)
same_fact one other Root (Attr l) first second e = absurd (differ (fact_data true one Root) (fact_data true other (Attr l)) refl e)
same_fact one other Root CurrentDate first second e = absurd (differ (fact_data true one Root) (fact_data true other CurrentDate) refl e)
same_fact one other Root CurrentTime first second e = absurd (differ (fact_data true one Root) (fact_data true other CurrentTime) refl e)
same_fact one other Root CurrentDateTime first second e = absurd (differ (fact_data true one Root) (fact_data true other CurrentDateTime) refl e)
same_fact one other (Ref r) Root first second e = absurd (differ (fact_data true one (Ref r)) (fact_data true other Root) refl e)
same_fact one other (Ref r) (Ref s) first second e = same_resolved one other r s first second e
same_fact one other (Ref r) (Attr l) first second e = absurd (differ (fact_data true one (Ref r)) (fact_data true other (Attr l)) refl e)
same_fact one other (Ref r) CurrentDate first second e = absurd (differ (fact_data true one (Ref r)) (fact_data true other CurrentDate) refl e)
same_fact one other (Ref r) CurrentTime first second e = absurd (differ (fact_data true one (Ref r)) (fact_data true other CurrentTime) refl e)
same_fact one other (Ref r) CurrentDateTime first second e = absurd (differ (fact_data true one (Ref r)) (fact_data true other CurrentDateTime) refl e)
same_fact one other (Attr k) Root first second e = absurd (differ (fact_data true one (Attr k)) (fact_data true other Root) refl e)
same_fact one other (Attr k) (Ref s) first second e = absurd (differ (fact_data true one (Attr k)) (fact_data true other (Ref s)) refl e)
same_fact one other (Attr k) (Attr l) first second e = same_row one other k l first second e
same_fact one other (Attr k) CurrentDate first second e = absurd (differ (fact_data true one (Attr k)) (fact_data true other CurrentDate) refl e)
same_fact one other (Attr k) CurrentTime first second e = absurd (differ (fact_data true one (Attr k)) (fact_data true other CurrentTime) refl e)
same_fact one other (Attr k) CurrentDateTime first second e = absurd (differ (fact_data true one (Attr k)) (fact_data true other CurrentDateTime) refl e)
same_fact one other CurrentDate Root first second e = absurd (differ (fact_data true one CurrentDate) (fact_data true other Root) refl e)
same_fact one other CurrentDate (Ref s) first second e = absurd (differ (fact_data true one CurrentDate) (fact_data true other (Ref s)) refl e)
same_fact one other CurrentDate (Attr l) first second e = absurd (differ (fact_data true one CurrentDate) (fact_data true other (Attr l)) refl e)
same_fact one other CurrentDate CurrentDate first second e = known_same (codes "date") values.Date IsRealDay day_same (date_in one.environment) (date_in other.environment) first second e
same_fact one other CurrentDate CurrentTime first second e = absurd (differ (fact_data true one CurrentDate) (fact_data true other CurrentTime) refl e)
same_fact one other CurrentDate CurrentDateTime first second e = absurd (differ (fact_data true one CurrentDate) (fact_data true other CurrentDateTime) refl e)
same_fact one other CurrentTime Root first second e = absurd (differ (fact_data true one CurrentTime) (fact_data true other Root) refl e)
same_fact one other CurrentTime (Ref s) first second e = absurd (differ (fact_data true one CurrentTime) (fact_data true other (Ref s)) refl e)
same_fact one other CurrentTime (Attr l) first second e = absurd (differ (fact_data true one CurrentTime) (fact_data true other (Attr l)) refl e)
same_fact one other CurrentTime CurrentDate first second e = absurd (differ (fact_data true one CurrentTime) (fact_data true other CurrentDate) refl e)
same_fact one other CurrentTime CurrentTime first second e = known_same (codes "time") values.Time IsRealTime time_same (time_in one.environment) (time_in other.environment) first second e
same_fact one other CurrentTime CurrentDateTime first second e = absurd (differ (fact_data true one CurrentTime) (fact_data true other CurrentDateTime) refl e)
same_fact one other CurrentDateTime Root first second e = absurd (differ (fact_data true one CurrentDateTime) (fact_data true other Root) refl e)
same_fact one other CurrentDateTime (Ref s) first second e = absurd (differ (fact_data true one CurrentDateTime) (fact_data true other (Ref s)) refl e)
same_fact one other CurrentDateTime (Attr l) first second e = absurd (differ (fact_data true one CurrentDateTime) (fact_data true other (Attr l)) refl e)
same_fact one other CurrentDateTime CurrentDate first second e = absurd (differ (fact_data true one CurrentDateTime) (fact_data true other CurrentDate) refl e)
same_fact one other CurrentDateTime CurrentTime first second e = absurd (differ (fact_data true one CurrentDateTime) (fact_data true other CurrentTime) refl e)
same_fact one other CurrentDateTime CurrentDateTime first second e = known_same (codes "dateTime") values.DateTime IsRealMoment moment_same (date_time_in one.environment) (date_time_in other.environment) first second e

each_same : (one other : Held) (ks ls : List ReadKey) → All (IsShortFact one) ks → All (IsShortFact other) ls → map (fact_data true one) ks ≡ map (fact_data true other) ls
    → All (IsSameLook (looks_in one) (looks_in other)) ks
each_same one other [] ls first second e = All-nil (IsSameLook (looks_in one) (looks_in other))
each_same one other (k ∷ ks) [] first second e = absurd cc
each_same one other (k ∷ ks) (l ∷ ls) first second e =
    let head : fact_data true one k ≡ fact_data true other l = cc in
    let tail : map (fact_data true one) ks ≡ map (fact_data true other) ls = cc in
    All-cons (IsSameLook (looks_in one) (looks_in other)) k ks
    (same_fact one other k l (All-head (IsShortFact one) k ks first) (All-head (IsShortFact other) l ls second) head)
    (each_same one other ks ls (All-tail (IsShortFact one) k ks first) (All-tail (IsShortFact other) l ls second) tail)

array_same : (xs ys : List Data) → json.array (items_of xs) ≡ json.array (items_of ys) → xs ≡ ys
array_same xs ys e =
    let same : items_of xs ≡ items_of ys = cc in
    items_same xs ys same

pub equal_facts : EqualFactsGiveEqualAnswers
equal_facts one other request first second e =
    let keys = recorded (looks_in one) request in
    let others = recorded (looks_in other) request in
    (answers-rest (looks_in one) (looks_in other) request
    (each_same one other keys others first second (array_same (map (fact_data true one) keys) (map (fact_data true other) others) e))).0
