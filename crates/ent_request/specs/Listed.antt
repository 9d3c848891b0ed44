-- The request of a cell of the table (sections 5.42, 5.44 and 5.46).
use Rattle.std.specs.Prelude.{ℕ, List, [], ◌∷◌, None, false}
use Rattle.ent_values.specs.declared.datatype.DataType.TheVariants as types
use Rattle.ent_values.specs.declared.value.Value.TheVariants as value
use Rattle.ent_request.specs.declared.request.Category.{Category}
use Rattle.ent_request.specs.declared.request.Request.{Request}
use Rattle.ent_request.specs.Uris as uris

-- a category with one attribute of one text, without an issuer, which isn't to be in the result
abbrev pub named : List ℕ → List ℕ → List ℕ → Category
named category attribute text = record {
  id = category;
  attributes = record { id = attribute; issuer = None; bag = record { datatype = types.Text; values = value.Text text ∷ [] }; included = false } ∷ [];
}

-- a resource by its id
abbrev pub about : List ℕ → Category
about resource = named uris.resource uris.resource_id resource

-- a person, an action and a resource by their ids
abbrev pub listed : List ℕ → List ℕ → List ℕ → Request
listed person action resource = record {
  categories = named uris.access_subject uris.subject_id person ∷ named uris.action uris.action_id action ∷ about resource ∷ [];
}
