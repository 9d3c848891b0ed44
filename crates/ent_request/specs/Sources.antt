-- Where the values of a designator come from, and which keys are looked up for them (section 7.3.5).
use Rattle.std.specs.Prelude.{ℕ, List, [], ◌∷◌, Bool, false, ◌&&◌, if◌then◌else◌, is_none, bytes_eq, Option, Some, None, option_and_then, option_map, option_to_list}
use Rattle.ent_values.specs.Same.{same_type}
use Rattle.ent_values.specs.declared.datatype.DataType.{DataType}
use Rattle.ent_values.specs.declared.datatype.DataType.TheVariants as types
use Rattle.ent_values.specs.declared.value.Value.{Value}
use Rattle.ent_values.specs.declared.value.Value.TheVariants as value
use Rattle.ent_policy.specs.declared.document.Designator.{Designator}
use Rattle.ent_finder.specs.declared.row.AttrKey.{AttrKey}
use Rattle.ent_request.specs.declared.cause.What.TheVariants.{Missing}
use Rattle.ent_request.specs.declared.key.ReadKey.{ReadKey}
use Rattle.ent_request.specs.declared.key.ReadKey.TheVariants as key
use Rattle.ent_request.specs.declared.question.Asked.{Asked}
use Rattle.ent_request.specs.declared.question.Question.{Question}
use Rattle.ent_request.specs.declared.question.Question.TheVariants.{Root, Ref, Of}
use Rattle.ent_request.specs.declared.request.Request.{Request}
use Rattle.ent_request.specs.Looks.{Looks}
use Rattle.ent_request.specs.Note.{Note, failing}
use Rattle.ent_request.specs.Own.{is_empty, own_values, sole_value}
use Rattle.ent_request.specs.Part.{Part, after_look, and_fails, without_look}
use Rattle.ent_request.specs.Uris as uris

-- whether a designator asks for this attribute of the environment, of this type, without an issuer (section 10.2.5 and appendix B.7)
abbrev pub asks_for : List ℕ → DataType → Designator → Bool
asks_for attribute datatype d = bytes_eq d.category uris.environment && (bytes_eq d.attribute attribute && (same_type d.datatype datatype && is_none d.issuer))

-- the value of what is known, or none where it isn't
abbrev pub known_values : {A : Type 0} → (A → Value) → Option A → List Value
known_values value_of known = option_to_list (option_map value_of known)

-- the id attribute of a category whose values modules hold: of access-subject, resource or action (appendix B.4 to B.6)
abbrev pub id_attribute : List ℕ → Option (List ℕ)
id_attribute category =
    if bytes_eq category uris.access_subject then Some uris.subject_id
    else (if bytes_eq category uris.resource then Some uris.resource_id
    else (if bytes_eq category uris.action then Some uris.action_id else None))

-- the text that a value is
abbrev pub text_of : Value → Option (List ℕ)
text_of (value.Text text) = Some text
text_of _ = None

-- the request's own values of an attribute that are strings, of whichever issuer
abbrev pub own_texts : Request → List ℕ → List ℕ → List Value
own_texts request category attribute =
    own_values (record { category = category; attribute = attribute; datatype = types.Text; issuer = None; must_be_present = false }) request

-- the string of an attribute, if the request has exactly one
abbrev pub only_text : Request → List ℕ → List ℕ → Option (List ℕ)
only_text request category attribute = option_and_then text_of (sole_value (own_texts request category attribute))

-- the entity of a category: the string of its id attribute
abbrev pub entity_of : Request → List ℕ → Option (List ℕ)
entity_of request category = option_and_then (only_text request category) (id_attribute category)

-- the key by which the values of an entity are looked up
abbrev pub key_for : Designator → List ℕ → AttrKey
key_for d entity = record { category = d.category; entity = entity; attribute = d.attribute; datatype = d.datatype; issuer = d.issuer }

-- the values of the entity, if there is one, which modules hold
abbrev pub entity_values : Looks → Designator → Option (List ℕ) → List Value
entity_values looks d None = []
entity_values looks d (Some entity) = looks.values (key_for d entity)

-- the values of a designator for which the request has none: the date, the time, or both together, or those of the entity of its category
abbrev pub source_values : Looks → Request → Designator → List Value
source_values looks request d =
    if asks_for uris.current_date types.Date d then known_values value.Date looks.date
    else (if asks_for uris.current_time types.Time d then known_values value.Time looks.time
    else (if asks_for uris.current_date_time types.DateTime d then known_values value.DateTime looks.date_time
    else entity_values looks d (entity_of request d.category)))

-- the values of a designator: the request's own, if it has any
abbrev pub designated_values : Looks → Request → Designator → List Value
designated_values looks request d =
    if is_empty (own_values d request) then source_values looks request d else own_values d request

-- what a designator asks for
abbrev pub asked_of : Designator → Asked
asked_of d = record { category = d.category; attribute = d.attribute; datatype = d.datatype; issuer = d.issuer }

-- a designator that asks for it
abbrev pub designator_for : Asked → Designator
designator_for a = record {
  category = a.category;
  attribute = a.attribute;
  datatype = a.datatype;
  issuer = a.issuer;
  must_be_present = false;
}

-- the values that are found for what is asked
abbrev pub values_of : Looks → Request → Asked → List Value
values_of looks request a = designated_values looks request (designator_for a)

-- the values of a designator, which are asked for
abbrev pub values_part : Looks → Request → Designator → Part (List Value)
values_part looks request d = after_look (Of (asked_of d)) (without_look (designated_values looks request d))

-- what fails where there is no value and one must be present (section 7.3.5)
abbrev pub missing : Designator → List Value → List Note
missing d [] = if d.must_be_present then failing (Missing (asked_of d)) else []
missing d (v ∷ vs) = []

-- the values of a designator, of which one must be present where that says so
abbrev pub demanded : Looks → Request → Designator → Part (List Value)
demanded looks request d = and_fails (values_part looks request d) (missing d)

-- ---- the keys that are looked up

-- the key of the entity, if there is one
abbrev pub entity_keys : Designator → Option (List ℕ) → List ReadKey
entity_keys d None = []
entity_keys d (Some entity) = key.Attr (key_for d entity) ∷ []

-- the keys that are looked up for a designator for which the request has no values: at most one
abbrev pub source_keys : Request → Designator → List ReadKey
source_keys request d =
    if asks_for uris.current_date types.Date d then key.CurrentDate ∷ []
    else (if asks_for uris.current_time types.Time d then key.CurrentTime ∷ []
    else (if asks_for uris.current_date_time types.DateTime d then key.CurrentDateTime ∷ []
    else entity_keys d (entity_of request d.category)))

-- the keys that are looked up for a question: the request's own values are no look-up
abbrev pub keys_of : Request → Question → List ReadKey
keys_of request Root = key.Root ∷ []
keys_of request (Ref reference) = key.Ref reference ∷ []
keys_of request (Of a) =
    if is_empty (own_values (designator_for a) request) then source_keys request (designator_for a) else []
