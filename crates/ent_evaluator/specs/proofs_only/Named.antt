-- Requests that ask what a request of a table asks: those of three ids and nothing else.
use Rattle.std.specs.Prelude.{◌≡◌, ℕ, List, [], ◌∷◌, ◌&&◌, if◌then◌else◌, is_none, option_and_then, Option, Some, None}
use Rattle.std.specs.Str.{bytes_eq}
use Rattle.ent_values.specs.Same.{same_type}
use Rattle.ent_values.specs.declared.datatype.DataType.TheVariants as types
use Rattle.ent_values.specs.declared.value.Value.{Value}
use Rattle.ent_values.specs.declared.value.Value.TheVariants as value
use Rattle.ent_policy.specs.declared.document.Designator.{Designator}
use Rattle.ent_request.specs.declared.request.Attribute.{Attribute}
use Rattle.ent_request.specs.declared.request.Category.{Category}
use Rattle.ent_request.specs.declared.request.Request.{Request}
use Rattle.ent_request.specs.Own.{own_values}
use Rattle.ent_request.specs.Sources.{id_attribute}
use Rattle.ent_request.specs.Uris as uris
use Rattle.ent_eval.specs.declared.who.Who.{Who}
pub use Rattle.ent_eval.specs.Names.{named_by}

-- the only one of several values, if it is a text
abbrev pub sole_text : List Value → Option (List ℕ)
sole_text (value.Text text ∷ []) = Some text
sole_text _ = None

-- the text of an attribute, if it has that id, no issuer and no other value
abbrev pub text_of : List ℕ → Attribute → Option (List ℕ)
text_of id a =
    if (bytes_eq a.id id && is_none a.issuer) && same_type a.bag.datatype types.Text then sole_text a.bag.values else None

-- the text of the only one of several attributes, if it has that id
abbrev pub text_in : List ℕ → List Attribute → Option (List ℕ)
text_in id (a ∷ []) = text_of id a
text_in id _ = None

-- the text of a category's id attribute, if it is the category of that id and has nothing else
abbrev pub text_alone : List ℕ → Category → Option (List ℕ)
text_alone id c =
    option_and_then (λ attribute. if bytes_eq c.id id then text_in attribute c.attributes else None) (id_attribute id)

-- a request of the table by three names, where all are there
abbrev pub of_three : Option (List ℕ) → Option (List ℕ) → Option (List ℕ) → Option Who
of_three (Some person) (Some action) (Some resource) = Some (record { person = person; action = action; resource = resource })
of_three _ _ _ = None

-- the names of which three categories have the ids and nothing else
abbrev pub names_in : List Category → Option Who
names_in (subject ∷ action ∷ resource ∷ []) =
    of_three (text_alone uris.access_subject subject) (text_alone uris.action action) (text_alone uris.resource resource)
names_in _ = None

-- a request has the values of its own that another has, for each designator
abbrev pub HasValuesOf : Request → Request → Type 0
HasValuesOf q r = (d : Designator) → own_values d q ≡ own_values d r
