-- What a designator asks for, and whether it is declared.
use Rattle.std.specs.Prelude.{ℕ, List, Bool, true, false, ◌&&◌, Option, Some, None, option_and_then, option_map, codes, bytes_eq}
use Rattle.std.specs.List.{list_any}
use Rattle.serde_json.specs.Data.{Data}
use Rattle.ent_values.specs.Same.{same_type}
use Rattle.ent_values.specs.Types.{type_of}
use Rattle.ent_json.specs.Objects.{text_at}
use Rattle.lint_declared.specs.declared.attribute.DeclaredAttribute.{DeclaredAttribute}

-- what a designator asks for (section 5.29), unless its category, id or data type is none
unfoldable pub asked : Data → Option DeclaredAttribute
asked d = option_and_then (λ category. option_and_then (λ id. option_map
    (λ datatype. record { category = category; id = id; datatype = datatype; issuer = text_at (codes "Issuer") d; values = None })
    (option_and_then type_of (text_at (codes "DataType") d))) (text_at (codes "AttributeId") d)) (text_at (codes "Category") d)

-- an issuer is the one that is wanted, if one is
abbrev pub is_wanted : Option (List ℕ) → Option (List ℕ) → Bool
is_wanted None issuer = true
is_wanted (Some wanted) None = false
is_wanted (Some wanted) (Some issuer) = bytes_eq wanted issuer

-- the values of an attribute are among those that are asked for: category, id and data type are the same, and the issuer is if one is asked for (section 7.3.4)
abbrev pub finds : DeclaredAttribute → DeclaredAttribute → Bool
finds wanted a = bytes_eq wanted.category a.category && (bytes_eq wanted.id a.id && (same_type wanted.datatype a.datatype && is_wanted wanted.issuer a.issuer))

-- it is asked for values of one of the attributes
abbrev pub finds_one : List DeclaredAttribute → Option DeclaredAttribute → Bool
finds_one attributes None = false
finds_one attributes (Some wanted) = list_any (finds wanted) attributes

-- a designator is declared where it asks for values of an attribute that is
abbrev pub is_declared : List DeclaredAttribute → Data → Bool
is_declared attributes d = finds_one attributes (asked d)
