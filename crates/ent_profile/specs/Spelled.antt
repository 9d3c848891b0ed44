-- A JSON value for each request that can be asked: one that asks for it and for no other.
use Rattle.std.specs.Prelude.{◌≡◌, ◌≤◌, ℕ, List, All, false, IfSome, Some, None, codes, length, map, option_map}
use Rattle.serde_json.specs.Data as json
use Rattle.serde_json.specs.Data.{Data}
use Rattle.serde_json.specs.View.{items_of}
use Rattle.ent_values.specs.Bags.{AllOfType}
use Rattle.ent_values.specs.ReadBack.{HasFewYears, IsReal}
use Rattle.ent_values.specs.Types.{uri_of}
use Rattle.ent_policy.specs.Limits.{has_double}
use Rattle.ent_policy.specs.Names.{name_of}
use Rattle.ent_json.specs.Members.{only_member, optional}
use Rattle.ent_polform.specs.Written.{value_written}
use Rattle.ent_request.specs.declared.request.Attribute.{Attribute}
use Rattle.ent_request.specs.declared.request.Category.{Category}
use Rattle.ent_request.specs.declared.request.Request.{Request}
use Rattle.ent_profile.specs.Asks.{asks}
use Rattle.ent_profile.specs.Categories.{named}

-- ---- how a request is spelled

-- an attribute (section 5.46), its values always a list
unfoldable pub attribute_spelled : Attribute → Data
attribute_spelled a = json.object (
    json.member (codes "AttributeId") (json.string a.id)
    (json.member (codes "DataType") (json.string (uri_of a.bag.datatype))
    (json.member (codes "IncludeInResult") (json.boolean a.included)
    (optional (codes "Issuer") (option_map json.string a.issuer)
    (json.member (codes "Value") (json.array (items_of (map value_written a.bag.values)))
    json.no_members)))))

-- a category (section 5.44), which names itself
unfoldable pub category_spelled : Category → Data
category_spelled c = json.object (
    json.member (codes "Attribute") (json.array (items_of (map attribute_spelled c.attributes)))
    (json.member (codes "CategoryId") (json.string c.id)
    json.no_members))

-- a request (section 5.42), all of whose categories stand at Category
unfoldable pub spelled : Request → Data
spelled q = only_member (codes "Request") (only_member (codes "Category") (json.array (items_of (map category_spelled q.categories))))

-- ---- which requests can be asked so

-- a text of 1 to 256 bytes
abbrev pub IsName : List ℕ → Type 0
IsName text = name_of text ≡ Some text

-- an attribute whose id, and issuer if it has one, are names, with at most 256 values of its type, each what that type says, of which no
-- duration has more than 999,999,999 whole years
pub record IsAskableAttribute (a : Attribute) : Type 0 where
  pub id : IsName a.id
  pub issuer : IfSome a.issuer IsName
  pub few : length a.bag.values ≤ 256
  pub typed : AllOfType a.bag.datatype a.bag.values
  pub real : All IsReal a.bag.values
  pub few_years : All HasFewYears a.bag.values

-- a category whose id is a name, but none of the short names, each of which stands for a URI, with at most 256 attributes
pub record IsAskableCategory (c : Category) : Type 0 where
  pub id : IsName c.id
  pub long : named c.id ≡ None
  pub few : length c.attributes ≤ 256
  pub attributes : All IsAskableAttribute c.attributes

-- a request of at most 256 categories, none of which stands twice
pub record IsAskable (q : Request) : Type 0 where
  pub few : length q.categories ≤ 256
  pub once : has_double (map (λ c. c.id) q.categories) ≡ false
  pub categories : All IsAskableCategory q.categories

-- for each such request there is a value that asks for it
abbrev pub RequestsReadBack : Type 0
RequestsReadBack = (q : Request) → IsAskable q → asks (spelled q) ≡ Some q
