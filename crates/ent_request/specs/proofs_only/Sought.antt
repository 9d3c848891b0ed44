-- What is looked for in a request, and where the request's own values of it lie.
use Rattle.std.specs.Prelude.{◌≡◌, ◌≤◌, List, false, length, option_copied}
use Rattle.ent_values.specs.Bags.{AllOfType}
use Rattle.ent_values.specs.declared.datatype.DataType.{DataType}
use Rattle.ent_values.specs.declared.value.Value.{Value}
use Rattle.ent_policy.specs.declared.document.Designator.{Designator}
use Rattle.ent_request.specs.declared.own.Sought.{Sought}
use Rattle.ent_request.specs.declared.request.Category.{Category}
use Rattle.ent_request.specs.Own.{attributes_in, values_among}

-- a designator that names what is looked for
abbrev pub designator_of : Sought → Designator
designator_of s = record { category = s.category.now; attribute = s.attribute.now; datatype = s.datatype; issuer = option_copied s.issuer; must_be_present = false }

-- the request's own values for a designator in one category
abbrev pub values_of : Designator → Category → List Value
values_of d c = values_among d (attributes_in d.category c)

-- values are the whole of others, and have a type
abbrev pub IsWhole : DataType → List Value → List Value → Type 0
IsWhole datatype all values = (values ≡ all) × AllOfType datatype values

-- there are at least two values
abbrev pub AreSeveral : List Value → Type 0
AreSeveral values = 2 ≤ length values
