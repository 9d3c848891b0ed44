-- What spells a request is read as that request.
use Rattle.std.proofs.Common.{◌≡◌, ℕ, ◌≤◌, List, [], ◌∷◌, All, map, length, Bool, false, not, nat_lt, IfSome, Option, Some, None, option_map, codes, refl, subst, ◌∙◌, arith}
use Rattle.std.proofs.lemmas.Bool.Decides.{nat_tests}
use Rattle.std.proofs.lemmas.List.{length-map}
use Rattle.std.proofs.lemmas.List.Elements.{All-head, All-tail}
use Rattle.serde_json.specs.Data as json
use Rattle.serde_json.specs.Data.{Data}
use Rattle.serde_json.specs.Find.{as_bool, as_str}
use Rattle.serde_json.specs.View.{items_of}
use Rattle.ent_values.specs.Bags.{AllOfType, Contents}
use Rattle.ent_values.specs.ReadBack.{HasFewYears, IsReal}
use Rattle.ent_values.specs.Types.{datatype_of, type_of, uri_of}
use Rattle.ent_values.specs.declared.datatype.DataType.{DataType}
use Rattle.ent_values.specs.declared.value.Value.{Value}
use Rattle.ent_values.proofs.TypeNames.{names_read_back}
use Rattle.ent_policy.specs.Limits.{has_double}
use Rattle.ent_polform.specs.Values.{value_in}
use Rattle.ent_json.specs.Members.{only_member, optional}
use Rattle.ent_polform.specs.Written.{value_written}
use Rattle.ent_polform.proofs.BackValues.{values_back}
use Rattle.ent_request.specs.declared.request.Attribute.{Attribute}
use Rattle.ent_request.specs.declared.request.Category.{Category}
use Rattle.ent_request.specs.declared.request.Request.{Request}
use Rattle.ent_profile.specs.Asks.{asks, attribute_of, attributes_of, bag_of, categories_of, category_at, category_of, has_request_form, name_in, request_of, values_of}
use Rattle.ent_profile.specs.Categories.{expanded, named, short_name}
use Rattle.ent_profile.specs.Reading.{◌>>=◌, at_most, each, maybe, one_or_many, provided}
use Rattle.ent_profile.specs.Spelled.{IsAskableAttribute, IsAskableCategory, IsName, RequestsReadBack, attribute_spelled, category_spelled, spelled}
use Rattle.ent_profile.proofs.ReadLemmas.{members_of_items}

-- ---- lists

not_more : (most n : ℕ) → n ≤ most → nat_lt most n ≡ false
not_more most n few = grind (arith, nat_tests)

-- a list of no more members than that
listed : {A : Type 0} (most : ℕ) (spell : A → Data) (xs : List A) → length xs ≤ most → at_most most (one_or_many (json.array (items_of (map spell xs)))) ≡ Some (map spell xs)
listed most spell xs few = rw (members_of_items (map spell xs), length-map xs spell, not_more most (length xs) few) refl

-- each member is read as what it was spelled of
all_again : {A : Type 0} (P : A → Type 0) (read : Data → Option A) (spell : A → Data) → ((x : A) → P x → read (spell x) ≡ Some x) → (xs : List A) → All P xs → each read (map spell xs) ≡ Some xs
all_again P read spell one [] h = refl
all_again P read spell one (x ∷ xs) h = rw (one x (All-head P x xs h), all_again P read spell one xs (All-tail P x xs h)) refl

-- so is the whole list
members_again : {A : Type 0} (most : ℕ) (P : A → Type 0) (read : Data → Option A) (spell : A → Data) → ((x : A) → P x → read (spell x) ≡ Some x) → (xs : List A) → length xs ≤ most → All P xs →
    (at_most most (one_or_many (json.array (items_of (map spell xs)))) >>= each read) ≡ Some xs
members_again most P read spell one xs few all = rw (listed most spell xs few) (all_again P read spell one xs all)

-- ---- values and attributes

values_again : (t : DataType) (vs : List Value) → AllOfType t vs → All IsReal vs → All HasFewYears vs → values_of t (map value_written vs) ≡ Some (record { datatype = t; values = vs })
values_again t vs typed real few_years = rw (each_again vs typed real few_years) refl
  where
    each_again : (vs : List Value) → AllOfType t vs → All IsReal vs → All HasFewYears vs → each (value_in t) (map value_written vs) ≡ Some vs
    each_again [] typed real few_years = refl
    each_again (v ∷ vs) typed real few_years =
        let same : datatype_of v ≡ t = All-head (λ w. datatype_of w ≡ t) v vs typed in
        let one : value_in t (value_written v) ≡ Some v = subst (λ s. value_in s (value_written v) ≡ Some v) same (values_back v (All-head IsReal v vs real) (All-head HasFewYears v vs few_years)) in
        rw (one, each_again vs (All-tail (λ w. datatype_of w ≡ t) v vs typed) (All-tail IsReal v vs real) (All-tail HasFewYears v vs few_years)) refl

-- at most so many values, and their type by its name
bag_again : (most : ℕ) (t : DataType) (vs : List Value) → length vs ≤ most → AllOfType t vs → All IsReal vs → All HasFewYears vs →
    (at_most most (one_or_many (json.array (items_of (map value_written vs)))) >>= λ ds. type_of (uri_of t) >>= λ datatype. values_of datatype ds) ≡ Some (record { datatype = t; values = vs })
bag_again most t vs few typed real few_years = rw (listed most value_written vs few, (names_read_back t).0) (values_again t vs typed real few_years)

issuer_again : (issuer : Option (List ℕ)) → IfSome issuer IsName → maybe name_in (option_map json.string issuer) ≡ Some issuer
issuer_again None is = refl
issuer_again (Some issuer) is = rw is refl

-- an attribute of its parts
abbrev made_of : Option (List ℕ) → Option (Option (List ℕ)) → Option Bool → Option Contents → Option Attribute
made_of id issuer included bag = do
  i ← id
  s ← issuer
  b ← included
  values ← bag
  Some (record { id = i; issuer = s; bag = values; included = b })

made : (o : Option (List ℕ)) (s : Option (Option (List ℕ))) (b : Option Contents) (a : Attribute) → o ≡ Some a.id → s ≡ Some a.issuer → b ≡ Some a.bag → made_of o s (Some a.included) b ≡ Some a
made o s b a id issuer bag = rw (id, issuer, bag) refl

-- the parts that are read of one
attribute_parts : (id datatype included value : Data) (issuer : Option Data) →
    attribute_of (json.object (json.member (codes "AttributeId") id (json.member (codes "DataType") datatype (json.member (codes "IncludeInResult") included
    (optional (codes "Issuer") issuer (json.member (codes "Value") value json.no_members))))))
    ≡ made_of (name_in id) (maybe name_in issuer) (as_bool included) (at_most 256 (one_or_many value) >>= λ ds. (as_str datatype >>= type_of) >>= λ t. values_of t ds)
unfolding attribute_of bag_of
attribute_parts id datatype included value None = refl
attribute_parts id datatype included value (Some issuer) = refl

attribute_again : (a : Attribute) → IsAskableAttribute a → attribute_of (attribute_spelled a) ≡ Some a
unfolding attribute_spelled
attribute_again a is =
    attribute_parts (json.string a.id) (json.string (uri_of a.bag.datatype)) (json.boolean a.included) (json.array (items_of (map value_written a.bag.values))) (option_map json.string a.issuer)
    ∙ made _ _ _ a is.id (issuer_again a.issuer is.issuer) (bag_again 256 a.bag.datatype a.bag.values is.few is.typed is.real is.few_years)

-- ---- categories and requests

-- a category of its parts
abbrev category_made : Option (List ℕ) → Option (List Attribute) → Option Category
category_made id attributes = do
  i ← id
  parts ← attributes
  Some (record { id = expanded i; attributes = parts })

own_id : (id : List ℕ) → named id ≡ None → expanded id ≡ id
unfolding expanded
own_id id long = rw long refl

made_category : (o : Option (List ℕ)) (s : Option (List Attribute)) (c : Category) → o ≡ Some c.id → expanded c.id ≡ c.id → s ≡ Some c.attributes → category_made o s ≡ Some c
made_category o s c id own attributes = rw (id, attributes, own) refl

-- the parts that are read of one
category_parts : (id attributes : Data) → category_of (json.object (json.member (codes "Attribute") attributes (json.member (codes "CategoryId") id json.no_members)))
    ≡ category_made (name_in id) (at_most 256 (one_or_many attributes) >>= each attribute_of)
unfolding category_of attributes_of
category_parts id attributes = refl

category_again : (c : Category) → IsAskableCategory c → category_of (category_spelled c) ≡ Some c
unfolding category_spelled
category_again c is =
    category_parts (json.string c.id) (json.array (items_of (map attribute_spelled c.attributes)))
    ∙ made_category _ _ c is.id (own_id c.id is.long) (members_again 256 IsAskableAttribute attribute_of attribute_spelled attribute_again c.attributes is.few is.attributes)

-- a request of its categories
abbrev request_made : Option (List Category) → Option Request
request_made categories = do
  cs ← (categories >>= λ others. Some others)
  provided (not (has_double (map (λ c. c.id) cs))) (Some (record { categories = cs }))

made_request : (o : Option (List Category)) (q : Request) → o ≡ Some q.categories → has_double (map (λ c. c.id) q.categories) ≡ false → request_made o ≡ Some q
made_request o q categories once = rw categories (rw once refl)

request_parts : (categories : Data) → asks (only_member (codes "Request") (only_member (codes "Category") categories)) ≡ request_made (at_most 256 (one_or_many categories) >>= each category_of)
unfolding asks request_of has_request_form categories_of category_at short_name
request_parts categories = refl

pub requests_back : RequestsReadBack
unfolding spelled
requests_back q is =
    request_parts (json.array (items_of (map category_spelled q.categories)))
    ∙ made_request _ q (members_again 256 IsAskableCategory category_of category_spelled category_again q.categories is.few is.categories) is.once
