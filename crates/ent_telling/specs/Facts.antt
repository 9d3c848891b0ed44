-- What an answer rests on: the look-ups that were recorded for it, each with what it gives.
use Rattle.std.specs.Prelude.{ℕ, List, Bool, map, Option, Some, None, option_map, codes, if◌then◌else◌}
use Rattle.std.specs.Option.{option_map_or}
use Rattle.serde_json.specs.Data as json
use Rattle.serde_json.specs.Data.{Data}
use Rattle.serde_json.specs.View.{items_of}
use Rattle.ent_values.specs.Types.{uri_of}
use Rattle.ent_values.specs.declared.value.Value.{Value}
use Rattle.ent_values.specs.declared.value.Value.TheVariants.{Date, DateTime, Time}
use Rattle.ent_policy.specs.Key.{key_of, kind_word}
use Rattle.ent_policy.specs.Versions.{version_text}
use Rattle.ent_policy.specs.declared.document.Tree.{Tree}
use Rattle.ent_finder.specs.Finding.{resolved}
use Rattle.ent_finder.specs.Looking.{looked}
use Rattle.ent_finder.specs.declared.row.AttrKey.{AttrKey}
use Rattle.ent_json.specs.Members.{only_member, optional}
use Rattle.ent_polform.specs.Written.{reference_written, value_written, written}
use Rattle.ent_walk.specs.Answer.{recorded}
use Rattle.ent_request.specs.Environment.{date_in, date_time_in, time_in}
use Rattle.ent_request.specs.Held.{Held, looks_in}
use Rattle.ent_request.specs.declared.key.ReadKey.{ReadKey}
use Rattle.ent_request.specs.declared.key.ReadKey.TheVariants.{Root, Ref, Attr, CurrentDate, CurrentTime, CurrentDateTime}
use Rattle.ent_request.specs.declared.request.Request.{Request}

-- what may be absent, which is null then
abbrev pub or_null : {A : Type 0} → (A → Data) → Option A → Data
or_null written o = option_map_or written o json.null

-- the document that a reference finds, with the number of its module, and with what it says or without
abbrev pub found_data : Bool → ℕ × Tree → Data
found_data whole d = json.object (
    optional (codes "document") (if whole then Some (written d.1) else None)
    (json.member (codes "id") (json.string (key_of d.1).id)
    (json.member (codes "kind") (json.string (kind_word (key_of d.1).kind))
    (json.member (codes "module") (json.number (json.unsigned d.0))
    (json.member (codes "version") (json.string (version_text (key_of d.1).version)) json.no_members)))))

-- the values that a key finds, which may be none
abbrev pub values_data : AttrKey → List Value → Data
values_data key values = json.object (
    json.member (codes "attribute") (json.string key.attribute)
    (json.member (codes "category") (json.string key.category)
    (json.member (codes "datatype") (json.string (uri_of key.datatype))
    (json.member (codes "entity") (json.string key.entity)
    (json.member (codes "issuer") (or_null json.string key.issuer)
    (json.member (codes "values") (json.array (items_of (map value_written values))) json.no_members))))))

-- what is known of the time, at its key
abbrev pub known_data : {A : Type 0} → List ℕ → (A → Value) → Option A → Data
known_data key kind known = only_member key (or_null value_written (option_map kind known))

-- a look-up with what it gives: a document that is found is told whole, or by its key alone
abbrev pub fact_data : Bool → Held → ReadKey → Data
fact_data whole held Root = only_member (codes "root") (or_null reference_written held.root)
fact_data whole held (Ref reference) = json.object (
    json.member (codes "found") (or_null (found_data whole) (resolved reference held.modules))
    (json.member (codes "reference") (reference_written reference) json.no_members))
fact_data whole held (Attr key) = values_data key (looked key held.sources)
fact_data whole held CurrentDate = known_data (codes "date") Date (date_in held.environment)
fact_data whole held CurrentTime = known_data (codes "time") Time (time_in held.environment)
fact_data whole held CurrentDateTime = known_data (codes "dateTime") DateTime (date_time_in held.environment)

-- several
abbrev pub facts_data : Bool → Held → List ReadKey → Data
facts_data whole held keys = json.array (items_of (map (fact_data whole held) keys))

-- the look-ups that are recorded for the answer to a request, in the order of their keys, each once
abbrev pub facts : Bool → Held → Request → Data
facts whole held request = facts_data whole held (recorded (looks_in held) request)
