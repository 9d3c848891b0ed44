-- What stands at the keys of a line, where it has the right shape.
use Rattle.std.specs.Prelude.{ℕ, ◌||◌, List, if◌then◌else◌, Option, Some, None, option_and_then, option_map, bytes_eq, codes}
use Rattle.std.specs.Option.{option_map_or}
use Rattle.serde_json.specs.Data as json
use Rattle.serde_json.specs.Data.{Data, Items}
use Rattle.serde_json.specs.Find.{get, as_array, as_number, as_str}
use Rattle.ent_policy.specs.Key.{kind_word}
use Rattle.ent_policy.specs.declared.key.Kind.{Kind}
use Rattle.ent_policy.specs.declared.key.Kind.TheVariants.{Policy, PolicySet}
use Rattle.ent_json.specs.Objects.{text_at, text_or_absent}
use Rattle.ent_request.specs.Uris as uris
use Rattle.ent_table.specs.declared.edit.List.{List as Which}
use Rattle.ent_table.specs.declared.edit.List.TheVariants.{People, Actions, Resources}

-- what is read next, where what comes before is there
infixl 10 ◌>>=◌
abbrev pub ◌>>=◌ : {A B : Type 0} → Option A → (A → Option B) → Option B
o >>= f = option_and_then f o

-- ---- numbers

-- the number that a whole number is, which is none where it is negative
abbrev pub whole : json.Num → Option (Option ℕ)
whole (json.unsigned n) = Some (Some n)
whole (json.negative z) = Some None
whole (json.float x) = None

-- the number that a JSON value is, if it is a whole one
abbrev pub number_in : Data → Option (Option ℕ)
number_in d = option_and_then whole (as_number d)

-- the number at a key; the absent key says this one
abbrev pub number_at : List ℕ → ℕ → Data → Option (Option ℕ)
number_at key absent d = option_map_or number_in (get key d) (Some (Some absent))

-- ---- words and texts

-- the kind of document that a word names
abbrev pub kind_named : List ℕ → Option Kind
kind_named word = if bytes_eq word (kind_word Policy) then Some Policy else (if bytes_eq word (kind_word PolicySet) then Some PolicySet else None)

-- the list that a word names
abbrev pub list_named : List ℕ → Option Which
list_named word = if bytes_eq word (codes "people") then Some People
    else (if bytes_eq word (codes "actions") then Some Actions else (if bytes_eq word (codes "resources") then Some Resources else None))

-- the URI of the category that a word or the URI itself names: of access-subject, resource or action
abbrev pub category_named : List ℕ → Option (List ℕ)
category_named word =
    if bytes_eq word (codes "AccessSubject") || bytes_eq word uris.access_subject then Some uris.access_subject
    else (if bytes_eq word (codes "Resource") || bytes_eq word uris.resource then Some uris.resource
    else (if bytes_eq word (codes "Action") || bytes_eq word uris.action then Some uris.action else None))

-- a text or null: what is there, or none
abbrev pub text_or_null : Data → Option (Option (List ℕ))
text_or_null json.null = Some None
text_or_null d = option_map Some (as_str d)

-- what a text or null says at a key
abbrev pub null_or_text_at : List ℕ → Data → Option (Option (List ℕ))
null_or_text_at key d = option_and_then text_or_null (get key d)

-- ---- rows

-- a row as a line has it: its category's URI, its entity, its attribute, the name of its type, its issuer, if it has
-- one, and its values
pub record AskedRow : Type 0 where
  pub category : List ℕ
  pub entity : List ℕ
  pub attribute : List ℕ
  pub datatype : List ℕ
  pub issuer : Option (List ℕ)
  pub values : Items

-- the row of a line. Its issuer may be absent
unfoldable pub row_in : Data → Option AskedRow
row_in d = do
  category ← text_at (codes "category") d >>= category_named
  entity ← text_at (codes "entity") d
  attribute ← text_at (codes "attribute") d
  datatype ← text_at (codes "type") d
  values ← get (codes "values") d >>= as_array
  if text_or_absent (codes "issuer") d
      then Some (record { category = category; entity = entity; attribute = attribute; datatype = datatype; issuer = text_at (codes "issuer") d; values = values })
      else None
