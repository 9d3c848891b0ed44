-- Which listed requests look a key up, of those that ask its question.
use Rattle.std.specs.Prelude.{◌≡◌, ℕ, List, [], Bool, true, false, ◌&&◌, Some, bytes_eq, if◌then◌else◌, is_none}
use Rattle.std.specs.List.{Contains}
use Rattle.std.specs.Option.{option_map_or}
use Rattle.ent_values.specs.Same.{same_type}
use Rattle.ent_values.specs.declared.datatype.DataType.TheVariants as types
use Rattle.ent_finder.specs.declared.row.AttrKey.{AttrKey}
use Rattle.ent_request.specs.declared.key.ReadKey.{ReadKey}
use Rattle.ent_request.specs.declared.key.ReadKey.TheVariants as key
use Rattle.ent_request.specs.declared.question.Question.{Question}
use Rattle.ent_request.specs.declared.readers.NamePlace.{NamePlace}
use Rattle.ent_request.specs.declared.readers.NamePlace.TheVariants.{Person, Action, Resource}
use Rattle.ent_request.specs.declared.readers.Readers.{Readers}
use Rattle.ent_request.specs.declared.readers.Readers.TheVariants.{Every, Named, Nobody}
use Rattle.ent_request.specs.Listed.{listed}
use Rattle.ent_request.specs.Noted.{has_key}
use Rattle.ent_request.specs.QuestionOf.{question_of}
use Rattle.ent_request.specs.Questions.{is_asked, keys_at}
use Rattle.ent_request.specs.Sources.{entity_of, id_attribute, keys_of}
use Rattle.ent_request.specs.Uris as uris

-- whether listed requests have values of their own for what a key asks: it is the id attribute of one of their categories
abbrev pub is_own : AttrKey → Bool
is_own k = option_map_or (λ id. bytes_eq id k.attribute) (id_attribute k.category) false && (same_type types.Text k.datatype && is_none k.issuer)

-- those that have the entity as the name of that category
abbrev pub readers_in : List ℕ → Readers
readers_in category =
    if bytes_eq category uris.access_subject then Named Person
    else (if bytes_eq category uris.resource then Named Resource
    else (if bytes_eq category uris.action then Named Action else Nobody))

-- which listed requests look a key up, where its question is asked
abbrev pub readers_of : ReadKey → Readers
readers_of (key.Attr k) = if is_own k then Nobody else readers_in k.category
readers_of _ = Every

-- the entity whose values a key names
abbrev pub entity_in : ReadKey → List ℕ
entity_in (key.Attr k) = k.entity
entity_in _ = []

-- the name at a place of a listed request
abbrev pub name_at : NamePlace → List ℕ → List ℕ → List ℕ → List ℕ
name_at Person person action resource = person
name_at Action person action resource = action
name_at Resource person action resource = resource

-- whether a listed request is among these, of keys that name an entity
abbrev pub is_reader : Readers → List ℕ → List ℕ → List ℕ → List ℕ → Bool
is_reader Every entity person action resource = true
is_reader (Named place) entity person action resource = bytes_eq entity (name_at place person action resource)
is_reader Nobody entity person action resource = false

-- whether a listed request looks a key up, where its question is asked
abbrev pub looks_up : List ℕ → List ℕ → List ℕ → ReadKey → Bool
looks_up person action resource k = is_reader (readers_of k) (entity_in k) person action resource

-- of a listed request that asks some questions a key is looked up exactly where its question is among them, and the request is one that looks it up
abbrev pub ListedLookUps : Type 0
ListedLookUps = (person action resource : List ℕ) (questions : List Question) (k : ReadKey)
    → has_key (keys_at (listed person action resource) questions) k ≡ (is_asked questions (question_of k) && looks_up person action resource k)

-- of a listed request each key of values names one of its names
abbrev pub KeysNameTheListed : Type 0
KeysNameTheListed = (person action resource : List ℕ) (question : Question) (k : AttrKey)
    → Contains (keys_of (listed person action resource) question) (key.Attr k) → entity_of (listed person action resource) k.category ≡ Some k.entity
