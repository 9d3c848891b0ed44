-- Attributes that are declared: the JSON of a list of them, and those that each request of the table has.
use Rattle.std.specs.Prelude.{ℕ, suc, List, [], ◌∷◌, ◌++◌, Option, Some, None, option_and_then, option_map, Result, Ok, Err, codes, decimal}
use Rattle.serde_json.specs.Data as json
use Rattle.serde_json.specs.Data.{Data, Items}
use Rattle.serde_json.specs.Find.{as_array, as_str, get}
use Rattle.ent_values.specs.Types.{type_of}
use Rattle.ent_values.specs.declared.datatype.DataType.{DataType}
use Rattle.ent_values.specs.declared.datatype.DataType.TheVariants as types
use Rattle.ent_values.specs.declared.value.Value.{Value}
use Rattle.ent_json.specs.Objects.{has_only, text_at}
use Rattle.ent_policy.specs.Names.{name_of}
use Rattle.ent_polform.specs.Objects.{◌>>=◌, must, need}
use Rattle.ent_polform.specs.Values.{value_in}
use Rattle.lint_declared.specs.declared.attribute.DeclaredAttribute.{DeclaredAttribute}
use Rattle.lint_declared.specs.declared.fault.AttributeFault.{AttributeFault}
use Rattle.lint_declared.specs.declared.fault.AttributeFault.TheVariants as fault
use Rattle.lint_declared.specs.declared.fault.AttributesFault.{AttributesFault}
use Rattle.lint_declared.specs.declared.fault.AttributesFault.TheVariants as faults

-- ---- a declaration

-- the name at a key: a text of 1 to 256 bytes
abbrev pub name_at : List ℕ → Data → Option (List ℕ)
name_at key d = option_and_then name_of (text_at key d)

-- an issuer, which may be absent; nothing where it is no name
abbrev pub issuer_of : Option Data → Option (Option (List ℕ))
issuer_of None = Some None
issuer_of (Some d) = option_map Some (option_and_then name_of (as_str d))

-- the values of a type, of which the first has this number, or the number of the first that is none
abbrev pub values_from : DataType → ℕ → Items → Result (List Value) AttributeFault
values_from datatype n json.no_items = Ok []
values_from datatype n (json.item d ds) =
    need (fault.Value n) (value_in datatype d) >>= λ v. values_from datatype (suc n) ds >>= λ more. Ok (v ∷ more)

-- those that may be listed
abbrev pub values_of : DataType → Option Data → Result (Option (List Value)) AttributeFault
values_of datatype None = Ok None
values_of datatype (Some d) = need fault.Values (as_array d) >>= λ items. values_from datatype 0 items >>= λ values. Ok (Some values)

-- the keys of a declaration
abbrev pub declared_keys : List (List ℕ)
declared_keys = codes "AttributeId" ∷ codes "Category" ∷ codes "DataType" ∷ codes "Issuer" ∷ codes "Values" ∷ []

-- the attribute that a declaration names, or what is wrong with it: Category, AttributeId and DataType, and maybe Issuer, and the values that it may have
unfoldable pub attribute_of : Data → Result DeclaredAttribute AttributeFault
attribute_of d = must fault.Form (has_only declared_keys d) (do
  category ← need fault.Category (name_at (codes "Category") d)
  id ← need fault.AttributeId (name_at (codes "AttributeId") d)
  datatype ← need fault.DataType (option_and_then type_of (text_at (codes "DataType") d))
  issuer ← need fault.Issuer (issuer_of (get (codes "Issuer") d))
  values ← values_of datatype (get (codes "Values") d)
  Ok (record { category = category; id = id; datatype = datatype; issuer = issuer; values = values }))

-- ---- a list of declarations

-- the fault of a declaration, with its number in the list
abbrev pub numbered : ℕ → Result DeclaredAttribute AttributeFault → Result DeclaredAttribute AttributesFault
numbered n (Ok a) = Ok a
numbered n (Err f) = Err (faults.Member n f)

-- the attributes that declarations name, of which the first has this number, or the first fault
abbrev pub attributes_from : ℕ → Items → Result (List DeclaredAttribute) AttributesFault
attributes_from n json.no_items = Ok []
attributes_from n (json.item d ds) = numbered n (attribute_of d) >>= λ a. attributes_from (suc n) ds >>= λ more. Ok (a ∷ more)

-- what is read, behind others
abbrev pub behind : {A E : Type 0} → List A → Result (List A) E → Result (List A) E
behind first (Ok more) = Ok (first ++ more)
behind first (Err f) = Err f

-- ---- those that are always declared

-- an attribute without an issuer, of any values
abbrev pub attribute : List ℕ → List ℕ → DataType → DeclaredAttribute
attribute category id datatype = record { category = category; id = id; datatype = datatype; issuer = None; values = None }

-- the ids of the three names of a request (appendix B.2, B.3 and B.4), and the attributes of the moment (appendix B.7)
abbrev pub always : List DeclaredAttribute
always = attribute (codes "urn:oasis:names:tc:xacml:1.0:subject-category:access-subject") (codes "urn:oasis:names:tc:xacml:1.0:subject:subject-id") types.Text
    ∷ attribute (codes "urn:oasis:names:tc:xacml:3.0:attribute-category:action") (codes "urn:oasis:names:tc:xacml:1.0:action:action-id") types.Text
    ∷ attribute (codes "urn:oasis:names:tc:xacml:3.0:attribute-category:resource") (codes "urn:oasis:names:tc:xacml:1.0:resource:resource-id") types.Text
    ∷ attribute (codes "urn:oasis:names:tc:xacml:3.0:attribute-category:environment") (codes "urn:oasis:names:tc:xacml:1.0:environment:current-date") types.Date
    ∷ attribute (codes "urn:oasis:names:tc:xacml:3.0:attribute-category:environment") (codes "urn:oasis:names:tc:xacml:1.0:environment:current-time") types.Time
    ∷ attribute (codes "urn:oasis:names:tc:xacml:3.0:attribute-category:environment") (codes "urn:oasis:names:tc:xacml:1.0:environment:current-dateTime") types.DateTime
    ∷ []

-- what a file declares: an object with a list at Attributes, whose attributes stand behind those that are always declared; or its first fault
unfoldable pub attributes_of : Data → Result (List DeclaredAttribute) AttributesFault
attributes_of d = must faults.NoList (has_only (codes "Attributes" ∷ []) d)
    (need faults.NoList (option_and_then as_array (get (codes "Attributes") d)) >>= λ items. behind always (attributes_from 0 items))

-- ---- where a fault of it stands

-- the place in a declaration
abbrev pub place_in : AttributeFault → List ℕ
place_in fault.Form = []
place_in fault.Category = codes "/Category"
place_in fault.AttributeId = codes "/AttributeId"
place_in fault.DataType = codes "/DataType"
place_in fault.Issuer = codes "/Issuer"
place_in fault.Values = codes "/Values"
place_in (fault.Value n) = codes "/Values/" ++ decimal n

-- the place in the file, as a JSON pointer (RFC 6901)
abbrev pub pointer_of : AttributesFault → List ℕ
pointer_of faults.NoList = codes "/Attributes"
pointer_of (faults.Member n f) = codes "/Attributes/" ++ decimal n ++ place_in f
