-- Names that lines list, and what they set.
use Rattle.std.specs.Prelude.{ℕ, List, ◌||◌, Bool, false, if◌then◌else◌, Option, Some, None, option_and_then, option_map, codes, bytes_eq}
use Rattle.std.specs.List.{filter_map, list_any}
use Rattle.std.specs.Option.{option_map_or}
use Rattle.serde_json.specs.Data.{Data, Items}
use Rattle.serde_json.specs.Find.{as_array, get}
use Rattle.ent_values.specs.Types.{type_of}
use Rattle.ent_json.specs.Line.{data_of}
use Rattle.ent_json.specs.Objects.{text_at, text_or_absent}
use Rattle.lint_declared.specs.contracts.listed.ListedNamePartialEq.TheImpl as names
use Rattle.lint_declared.specs.declared.attribute.DeclaredAttribute.{DeclaredAttribute}
use Rattle.lint_declared.specs.declared.listed.ListedName.{ListedName}

-- ---- names that are listed

-- the category whose names a command lists
abbrev pub category_listed : List ℕ → Option (List ℕ)
category_listed word =
    if bytes_eq word (codes "person.add") then Some (codes "urn:oasis:names:tc:xacml:1.0:subject-category:access-subject")
    else (if bytes_eq word (codes "action.add") then Some (codes "urn:oasis:names:tc:xacml:3.0:attribute-category:action")
    else (if bytes_eq word (codes "resource.add") then Some (codes "urn:oasis:names:tc:xacml:3.0:attribute-category:resource") else None))

-- a name of a category
abbrev pub named : List ℕ → List ℕ → ListedName
named category name = record { category = category; name = name }

-- the name that a line lists, if it does
unfoldable pub listed_by : Data → Option ListedName
listed_by d = option_and_then (λ category. option_map (named category) (text_at (codes "name") d))
    (option_and_then category_listed (text_at (codes "do") d))

-- the names that lines list
abbrev pub names_in : List (List ℕ) → List ListedName
names_in = filter_map (λ line. option_and_then listed_by (data_of line))

-- a name is among these
abbrev pub has_name : ListedName → List ListedName → Bool
has_name name among = list_any ((names.ghosts).eq name) among

-- ---- values that are set

-- the category that a word or the URI itself names
abbrev pub category_of : List ℕ → Option (List ℕ)
category_of word =
    if bytes_eq word (codes "AccessSubject") || bytes_eq word (codes "urn:oasis:names:tc:xacml:1.0:subject-category:access-subject")
    then Some (codes "urn:oasis:names:tc:xacml:1.0:subject-category:access-subject")
    else (if bytes_eq word (codes "Action") || bytes_eq word (codes "urn:oasis:names:tc:xacml:3.0:attribute-category:action")
    then Some (codes "urn:oasis:names:tc:xacml:3.0:attribute-category:action")
    else (if bytes_eq word (codes "Resource") || bytes_eq word (codes "urn:oasis:names:tc:xacml:3.0:attribute-category:resource")
    then Some (codes "urn:oasis:names:tc:xacml:3.0:attribute-category:resource") else None))

-- what a line sets: values of an attribute, for a name of its category
pub record Setting : Type 0 where
  pub attribute : DeclaredAttribute
  pub entity : List ℕ
  pub values : Items

-- what a line sets that can be read
unfoldable pub setting_of : Data → Option Setting
setting_of d = option_and_then (λ category. option_and_then (λ entity. option_and_then (λ id. option_and_then (λ datatype. option_and_then (λ values.
    if text_or_absent (codes "issuer") d
    then Some (record {
      attribute = record { category = category; id = id; datatype = datatype; issuer = text_at (codes "issuer") d; values = None };
      entity = entity;
      values = values;
    })
    else None)
    (option_and_then as_array (get (codes "values") d)))
    (option_and_then type_of (text_at (codes "type") d)))
    (text_at (codes "attribute") d))
    (text_at (codes "entity") d))
    (option_and_then category_of (text_at (codes "category") d))

-- the command of a line is `attr.set`
abbrev pub is_setting : Data → Bool
is_setting d = option_map_or (bytes_eq (codes "attr.set")) (text_at (codes "do") d) false
