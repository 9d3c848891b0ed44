-- The values that a request itself has for a designator (sections 5.29 and 7.3.5).
use Rattle.std.specs.Prelude.{ℕ, List, [], ◌∷◌, Bool, true, false, ◌&&◌, if◌then◌else◌, Option, Some, None}
use Rattle.std.specs.List.{flat_map}
use Rattle.std.specs.Str.{bytes_eq}
use Rattle.ent_values.specs.Same.{same_type}
use Rattle.ent_values.specs.declared.value.Value.{Value}
use Rattle.ent_policy.specs.declared.document.Designator.{Designator}
use Rattle.ent_request.specs.declared.request.Attribute.{Attribute}
use Rattle.ent_request.specs.declared.request.Category.{Category}
use Rattle.ent_request.specs.declared.request.Request.{Request}

-- whether an attribute's issuer is the one that a designator names, where it names one
abbrev pub has_issuer : Option (List ℕ) → Option (List ℕ) → Bool
has_issuer None issuer = true
has_issuer (Some wanted) (Some issuer) = bytes_eq issuer wanted
has_issuer (Some wanted) None = false

-- whether an attribute is one that a designator names
abbrev pub is_designated : Designator → Attribute → Bool
is_designated d a = bytes_eq a.id d.attribute && (same_type a.bag.datatype d.datatype && has_issuer d.issuer a.issuer)

-- the values of an attribute, if a designator names it
abbrev pub values_in : Designator → Attribute → List Value
values_in d a = if is_designated d a then a.bag.values else []

-- the values of those of several attributes that a designator names
abbrev pub values_among : Designator → List Attribute → List Value
values_among d attributes = flat_map (values_in d) attributes

-- the attributes in a category, if it is the one of that id
abbrev pub attributes_in : List ℕ → Category → List Attribute
attributes_in id c = if bytes_eq c.id id then c.attributes else []

-- the attributes in those of several categories that have that id
abbrev pub attributes_of : List ℕ → List Category → List Attribute
attributes_of id categories = flat_map (attributes_in id) categories

-- the request's own values for a designator
abbrev pub own_values : Designator → Request → List Value
own_values d request = values_among d (attributes_of d.category request.categories)

-- the only one of several values, if there is exactly one
abbrev pub sole_value : List Value → Option Value
sole_value (v ∷ []) = Some v
sole_value _ = None

-- whether there is no value
abbrev pub is_empty : List Value → Bool
is_empty [] = true
is_empty (v ∷ vs) = false
