-- What is told of the documents that are held.
use Rattle.std.specs.Prelude.{ℕ, List, Bool, true, Option, Some, None, if◌then◌else◌, is_some, map, filter, bytes_eq, codes}
use Rattle.std.specs.FinMap.{entries}
use Rattle.std.specs.List.{enumerate_from, flat_map}
use Rattle.std.specs.Option.{option_map_or}
use Rattle.serde_json.specs.Data as json
use Rattle.serde_json.specs.Data.{Data}
use Rattle.serde_json.specs.View.{items_of}
use Rattle.serde_json.specs.Written.{compact_text}
use Rattle.ent_policy.specs.Key.{kind_word}
use Rattle.ent_policy.specs.Versions.{version_text}
use Rattle.ent_policy.specs.declared.document.Tree.{Tree}
use Rattle.ent_policy.specs.declared.key.DocKey.{DocKey}
use Rattle.ent_finder.specs.Slots.{Docs}
use Rattle.ent_json.specs.Members.{only_member, optional}
use Rattle.ent_polform.specs.Written.{written}
use Rattle.ent_request.specs.Held.{Held}
use Rattle.lint_reach.specs.Reached.{is_reached}
use Rattle.lint_reach.specs.declared.place.DocPlace.{DocPlace}

-- the documents of a module that have an id, or all of them, with the module's number, in the order of their keys
abbrev pub module_documents : Option (List ℕ) → ℕ × Docs → List (ℕ × DocKey × Tree)
module_documents id m = map (λ e. (m.0, e.0, e.1)) (filter (λ e. option_map_or (bytes_eq e.0.id) id true) (entries m.1))

-- those of all modules, by the modules' numbers: the order of a dump
abbrev pub documents : Option (List ℕ) → List Docs → List (ℕ × DocKey × Tree)
documents id modules = flat_map (module_documents id) (enumerate_from 0 modules)

-- one of them, with the document itself or without, and with whether the root leads to it
abbrev pub document_data : (DocPlace → Bool) → Bool → ℕ × DocKey × Tree → Data
document_data reached whole d = json.object (
    optional (codes "document") (if whole then Some (written d.2) else None)
    (json.member (codes "id") (json.string d.1.id)
    (json.member (codes "kind") (json.string (kind_word d.1.kind))
    (json.member (codes "module") (json.number (json.unsigned d.0))
    (json.member (codes "reached") (json.boolean (reached (record { number = d.0; key = d.1 })))
    (json.member (codes "version") (json.string (version_text d.1.version))
    json.no_members))))))

-- the reply to `documents`: all without the documents themselves, or those of an id with them
abbrev pub documents_data : Held → Option (List ℕ) → Data
documents_data held id = only_member (codes "documents") (json.array (items_of
    (map (document_data (is_reached held.modules held.root) (is_some id)) (documents id held.modules))))

-- its text
unfoldable pub documents_text : Held → Option (List ℕ) → List ℕ
documents_text held id = compact_text (documents_data held id)
