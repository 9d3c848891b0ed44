-- What questions find for the names of listed requests, by number.
use Rattle.std.specs.Prelude.{◌≡◌, ◌≢◌, ℕ, List, [], ◌∷◌, Option, Some, None, bytes_eq, if◌then◌else◌, slice_get}
use Rattle.ent_values.specs.Bags.{Contents}
use Rattle.ent_values.specs.declared.datatype.DataType.TheVariants as types
use Rattle.ent_values.specs.declared.value.Value.TheVariants as value
use Rattle.ent_finder.specs.declared.row.AttrKey.{AttrKey}
use Rattle.ent_request.specs.declared.question.Asked.{Asked}
use Rattle.ent_request.specs.declared.question.Question.{Question}
use Rattle.ent_request.specs.declared.question.Question.TheVariants.{Of}
use Rattle.ent_request.specs.declared.readers.NamePlace.{NamePlace}
use Rattle.ent_request.specs.declared.readers.NamePlace.TheVariants.{Person, Action, Resource}
use Rattle.ent_request.specs.declared.request.Request.{Request}
use Rattle.ent_request.specs.Looks.{Looks}
use Rattle.ent_request.specs.Readers.{is_own}
use Rattle.ent_request.specs.Sources.{designator_for, key_for, values_of}
use Rattle.ent_request.specs.Uris as uris

-- the name of listed requests that a category is of, if it is of one
abbrev pub place_in : List ℕ → Option NamePlace
place_in category =
    if bytes_eq category uris.access_subject then Some Person
    else (if bytes_eq category uris.resource then Some Resource
    else (if bytes_eq category uris.action then Some Action else None))

-- the name that a question is about, if it is about one
abbrev pub place_of : Question → Option NamePlace
place_of (Of a) = place_in a.category
place_of _ = None

-- the bag that a question finds for a request: the values of its attribute, if it asks for those
abbrev pub bag_for : Looks → Request → Question → Contents
bag_for looks request (Of a) = record { datatype = a.datatype; values = values_of looks request a }
bag_for looks request _ = record { datatype = types.Text; values = [] }

-- the bag that what is asked about a name finds for it
abbrev pub bag_in : Looks → Asked → List ℕ → Contents
bag_in looks a name = record {
  datatype = a.datatype;
  values = if is_own (key_for (designator_for a) name) then value.Text name ∷ [] else looks.values (key_for (designator_for a) name);
}

-- the question of that number finds the bag of that number
abbrev pub FindsBag : Looks → List Question → List Contents → Request → ℕ → ℕ → Type 0
FindsBag looks questions bags request question bag = (x : Question) × ((slice_get questions question ≡ Some x) × (slice_get bags bag ≡ Some (bag_for looks request x)))

-- the question of a number is about a place's name
abbrev pub IsAbout : List Question → ℕ → NamePlace → Type 0
IsAbout questions question place = (x : Question) × ((slice_get questions question ≡ Some x) × (place_of x ≡ Some place))

-- the question of a number is about a place's name, and finds for that name the bag of that number
abbrev pub FindsIn : Looks → List Question → List Contents → NamePlace → List ℕ → ℕ → ℕ → Type 0
FindsIn looks questions bags place name question bag = (a : Asked) × ((slice_get questions question ≡ Some (Of a))
    × ((place_in a.category ≡ Some place) × (slice_get bags bag ≡ Some (bag_in looks a name))))

-- a question asks for the values of an attribute
abbrev pub IsAttribute : Question → Type 0
IsAttribute (Of a) = Unit {0}
IsAttribute _ = ⊥

-- the same is known of the time
abbrev pub IsAtTime : Looks → Looks → Type 0
IsAtTime s t = (t.date ≡ s.date) × ((t.time ≡ s.time) × (t.date_time ≡ s.date_time))

-- keys of other names name the same values
abbrev pub HaveSameOthers : List ℕ → Looks → Looks → Type 0
HaveSameOthers name s t = (key : AttrKey) → key.entity ≢ name → t.values key ≡ s.values key
