-- What the types say of the values of answers and requests.
use Rattle.std.specs.List.{AllByRecursion}
use Rattle.ent_values.specs.ReadBack.{IsReal}
use Rattle.ent_request.specs.declared.given.Given.{Given}
use Rattle.ent_request.specs.declared.request.Attribute.{Attribute}
use Rattle.ent_request.specs.declared.request.Category.{Category}

-- that of each assignment of an obligation or an advice
abbrev pub GivenIsReal : Given → Type 0
GivenIsReal g = AllByRecursion (λ a. IsReal a.value) g.assignments

-- each of an attribute
abbrev pub AttributeIsReal : Attribute → Type 0
AttributeIsReal a = AllByRecursion IsReal a.bag.values

-- each of a category
abbrev pub CategoryIsReal : Category → Type 0
CategoryIsReal c = AllByRecursion AttributeIsReal c.attributes
