-- Where a rule stands, and statuses, as they are told.
use Rattle.std.specs.Prelude.{ℕ, List, [], ◌∷◌, map, Option, codes}
use Rattle.std.specs.Option.{option_map_or}
use Rattle.serde_json.specs.Data as json
use Rattle.serde_json.specs.Data.{Data}
use Rattle.serde_json.specs.View.{items_of}
use Rattle.ent_policy.specs.Key.{kind_word}
use Rattle.ent_policy.specs.Versions.{version_text}
use Rattle.ent_policy.specs.declared.key.DocKey.{DocKey}
use Rattle.ent_request.specs.declared.answer.Status.{Status}
use Rattle.ent_request.specs.declared.answer.Status.TheVariants as status

-- a document on the path to a rule: its kind, id and version
abbrev pub key_data : DocKey → Data
key_data key = json.array (items_of (json.string (kind_word key.kind) ∷ json.string key.id ∷ json.string (version_text key.version) ∷ []))

-- the documents on a path
abbrev pub path_data : List DocKey → Data
path_data keys = json.array (items_of (map key_data keys))

-- a rule's id, null where there is none
abbrev pub rule_data : Option (List ℕ) → Data
rule_data id = option_map_or json.string id json.null

-- the last part of the identifier of a status (appendix B.8)
abbrev pub status_text : Status → List ℕ
status_text status.Okay = codes "ok"
status_text status.MissingAttribute = codes "missing-attribute"
status_text status.ProcessingError = codes "processing-error"
