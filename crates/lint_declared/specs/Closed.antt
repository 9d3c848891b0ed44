-- Names that are listed, as the values that the ids of a request may have.
use Rattle.std.specs.Prelude.{ℕ, List, [], ◌∷◌, ◌++◌, if◌then◌else◌, Some, None, codes, bytes_eq}
use Rattle.std.specs.List.{filter_map}
use Rattle.ent_values.specs.declared.datatype.DataType.TheVariants as types
use Rattle.ent_values.specs.declared.value.Value.{Value}
use Rattle.ent_values.specs.declared.value.Value.TheVariants as values
use Rattle.lint_declared.specs.declared.attribute.DeclaredAttribute.{DeclaredAttribute}
use Rattle.lint_declared.specs.declared.listed.ListedName.{ListedName}

-- the names of a category, as values
abbrev pub names_of : List ℕ → List ListedName → List Value
names_of category = filter_map (λ n. if bytes_eq n.category category then Some (values.Text n.name) else None)

-- an attribute that may have these values alone, where there are any
abbrev pub closed : List ℕ → List ℕ → List Value → List DeclaredAttribute
closed category id [] = []
closed category id (v ∷ vs) = record { category = category; id = id; datatype = types.Text; issuer = None; values = Some (v ∷ vs) } ∷ []

-- the ids of a request whose names are listed, with these names as the values that they may have
abbrev pub closed_by : List ListedName → List DeclaredAttribute
closed_by listed =
    closed (codes "urn:oasis:names:tc:xacml:1.0:subject-category:access-subject") (codes "urn:oasis:names:tc:xacml:1.0:subject:subject-id")
    (names_of (codes "urn:oasis:names:tc:xacml:1.0:subject-category:access-subject") listed)
    ++ closed (codes "urn:oasis:names:tc:xacml:3.0:attribute-category:action") (codes "urn:oasis:names:tc:xacml:1.0:action:action-id")
    (names_of (codes "urn:oasis:names:tc:xacml:3.0:attribute-category:action") listed)
    ++ closed (codes "urn:oasis:names:tc:xacml:3.0:attribute-category:resource") (codes "urn:oasis:names:tc:xacml:1.0:resource:resource-id")
    (names_of (codes "urn:oasis:names:tc:xacml:3.0:attribute-category:resource") listed)
