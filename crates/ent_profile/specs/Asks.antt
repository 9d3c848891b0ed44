-- Which JSON values ask for which request, in this profile of the JSON Profile of XACML 3.0. Every other value asks for nothing.
use Rattle.std.specs.Prelude.{ℕ, ◌&&◌, not, List, [], ◌∷◌, ◌++◌, map, Bool, false, if◌then◌else◌, Option, Some, None, is_some, codes}
use Rattle.std.specs.List.{list_all}
use Rattle.std.specs.Option.{option_map_or}
use Rattle.serde_json.specs.Data.{Data}
use Rattle.serde_json.specs.Find.{get, as_bool, as_number, as_str}
use Rattle.ent_values.specs.Bags.{Contents}
use Rattle.ent_values.specs.Types.{type_of}
use Rattle.ent_values.specs.declared.datatype.DataType.{DataType}
use Rattle.ent_values.specs.declared.datatype.DataType.TheVariants as types
use Rattle.ent_policy.specs.Limits.{has_double}
use Rattle.ent_policy.specs.Names.{name_of}
use Rattle.ent_json.specs.Objects.{has_only, text_or_absent, flag_at}
use Rattle.ent_polform.specs.Values.{value_in}
use Rattle.ent_request.specs.declared.request.Attribute.{Attribute}
use Rattle.ent_request.specs.declared.request.Category.{Category}
use Rattle.ent_request.specs.declared.request.Request.{Request}
use Rattle.ent_profile.specs.Categories.{short_name, uri_of, named_categories, expanded}
use Rattle.ent_profile.specs.declared.categories.NamedCategory.{NamedCategory}
use Rattle.ent_profile.specs.Reading.{◌>>=◌, provided, maybe, each, gathered, none_or_many, one_or_many, at_most}

-- ---- values

abbrev pub is_text : Data → Bool
is_text d = is_some (as_str d)

abbrev pub is_boolean : Data → Bool
is_boolean d = is_some (as_bool d)

abbrev pub is_number : Data → Bool
is_number d = is_some (as_number d)

-- the type of values that name none: all are texts, all are booleans, or all are numbers. No value at all is of type string
unfoldable pub type_by_values : List Data → Option DataType
type_by_values ds =
    if list_all is_text ds then Some types.Text
    else (if list_all is_boolean ds then Some types.Boolean
    else (if list_all is_number ds then Some types.Integer else None))

-- the type of values, by its full or its short name where it is named
abbrev pub type_at : Option Data → List Data → Option DataType
type_at None ds = type_by_values ds
type_at (Some name) ds = as_str name >>= type_of

-- the values of that type that JSON values spell, if each spells one
abbrev pub values_of : DataType → List Data → Option Contents
values_of datatype ds = each (value_in datatype) ds >>= λ values. Some (record { datatype = datatype; values = values })

-- at most 256 values of an attribute, all of one type
unfoldable pub bag_of : Data → Option Contents
bag_of d = do
  values ← get (codes "Value") d >>= λ v. at_most 256 (one_or_many v)
  datatype ← type_at (get (codes "DataType") d) values
  values_of datatype values

-- ---- attributes

-- a text of 1 to 256 bytes
abbrev pub name_in : Data → Option (List ℕ)
name_in d = as_str d >>= name_of

-- an attribute (section 5.46), which isn't included in the result unless it says so
unfoldable pub attribute_of : Data → Option Attribute
attribute_of d = provided (has_only (codes "AttributeId" ∷ codes "DataType" ∷ codes "IncludeInResult" ∷ codes "Issuer" ∷ codes "Value" ∷ []) d) (do
  id ← get (codes "AttributeId") d >>= name_in
  issuer ← maybe name_in (get (codes "Issuer") d)
  included ← flag_at (codes "IncludeInResult") d
  bag ← bag_of d
  Some (record { id = id; issuer = issuer; bag = bag; included = included }))

-- the attributes of a category, at most 256, with an Id that isn't used
unfoldable pub attributes_of : Data → Option (List Attribute)
attributes_of d = provided (text_or_absent (codes "Id") d) (at_most 256 (none_or_many (get (codes "Attribute") d)) >>= each attribute_of)

-- ---- categories

-- a category (section 5.44) that stands at a short name
unfoldable pub category_by : List ℕ → Data → Option Category
category_by uri d = provided (has_only (codes "Attribute" ∷ codes "Id" ∷ []) d) (do
  attributes ← attributes_of d
  Some (record { id = uri; attributes = attributes }))

-- a category that names itself, by its URI or by a short name
unfoldable pub category_of : Data → Option Category
category_of d = provided (has_only (codes "Attribute" ∷ codes "CategoryId" ∷ codes "Id" ∷ []) d) (do
  id ← get (codes "CategoryId") d >>= name_in
  attributes ← attributes_of d
  Some (record { id = expanded id; attributes = attributes }))

-- the category that stands at a short name, if it is there
unfoldable pub category_at : Data → NamedCategory → Option (List Category)
category_at d category = at_most 1 (none_or_many (get (short_name category) d)) >>= each (category_by (uri_of category))

-- the categories at the short names, and those that name themselves, at most 256
unfoldable pub categories_of : Data → Option (List Category)
categories_of d = do
  at_names ← gathered (category_at d) named_categories
  others ← at_most 256 (none_or_many (get (codes "Category") d)) >>= each category_of
  Some (at_names ++ others)

-- ---- requests

-- a flag that is absent or false
abbrev pub is_unset : List ℕ → Data → Bool
is_unset key d = option_map_or not (flag_at key d) false

-- the keys of a request: none of the profile's but these, and no wish for a list of policies or for a combined decision
unfoldable pub has_request_form : Data → Bool
has_request_form d =
    has_only (map short_name named_categories ++ codes "Category" ∷ codes "CombinedDecision" ∷ codes "ReturnPolicyIdList" ∷ codes "XPathVersion" ∷ []) d
    && is_unset (codes "CombinedDecision") d && is_unset (codes "ReturnPolicyIdList") d && text_or_absent (codes "XPathVersion") d

-- a request (section 5.42), no category of which stands twice
unfoldable pub request_of : Data → Option Request
request_of d = provided (has_request_form d) (do
  categories ← categories_of d
  provided (not (has_double (map (λ c. c.id) categories))) (Some (record { categories = categories })))

-- the request that a JSON value asks for
unfoldable pub asks : Data → Option Request
asks d = provided (has_only (codes "Request" ∷ []) d) (get (codes "Request") d >>= request_of)
