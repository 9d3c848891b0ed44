-- What the lines of a dump, and the texts of files, hold of documents.
use Rattle.std.specs.Prelude.{ℕ, List, [], ◌∷◌, ◌++◌, Bool, false, nat_eq, Option, Some, None, bytes_eq, codes, is_some, option_and_then, option_map, if◌then◌else◌}
use Rattle.std.specs.FinMap.{empty, insert}
use Rattle.std.specs.List.{list_any, slice_split}
use Rattle.std.specs.Option.{option_map_or}
use Rattle.std.specs.Result.{result_ok}
use Rattle.serde_json.specs.Data.{Data}
use Rattle.serde_json.specs.Find.{as_null, get}
use Rattle.ent_json.specs.Line.{data_of}
use Rattle.ent_json.specs.Objects.{among, text_at}
use Rattle.ent_policy.specs.Key.{key_of}
use Rattle.ent_policy.specs.Same.{same_key}
use Rattle.ent_policy.specs.declared.document.Tree.{Tree}
use Rattle.ent_policy.specs.declared.key.DocKey.{DocKey}
use Rattle.ent_policy.specs.declared.key.Reference.{Reference}
use Rattle.ent_polform.specs.Form.{document_of}
use Rattle.ent_polform.specs.Reference.{reference_of}
use Rattle.ent_finder.specs.Slots.{Slots}
use Rattle.lint_links.specs.declared.state.StoredState.{StoredState}

-- documents by key, as if one module held them, and the root
pub record Stored : Type 0 where
  pub slots : Slots
  pub root : Option Reference

-- what a state holds
abbrev pub stored_in : StoredState → Stored
stored_in s = record { slots = s.docs; root = s.root }

-- no documents, and no root
abbrev pub nothing : Stored
nothing = record { slots = empty; root = None }

-- one more document, in the place of the one that stands under its key, if one does
abbrev pub with_document : Stored → Tree → Stored
with_document s document = record s { slots = insert s.slots (key_of document) (Some document) }

-- ---- the lines of a dump

-- what a line adds that has this at its key `document`: none where it is no document
abbrev pub added : Stored → Option Data → Option Stored
added s json = option_map (with_document s) (option_and_then (λ d. result_ok (document_of d)) json)

-- with the root that this spells, which is null or a reference
abbrev pub with_root : Stored → Data → Option Stored
with_root s d =
    if is_some (as_null d) then Some (record s { root = None })
    else option_map (λ reference. record s { root = Some reference }) (result_ok (reference_of d))

-- the same of what a line has at its key `reference`
abbrev pub rooted : Stored → Option Data → Option Stored
rooted s json = option_and_then (with_root s) json

-- the other commands of a dump, which count for nothing here
abbrev pub others : List (List ℕ)
others = codes "format" ∷ codes "person.add" ∷ codes "action.add" ∷ codes "resource.add" ∷ codes "attr.set" ∷ codes "day.set" ∷ codes "moment.set" ∷ []

-- after a command of that word: none where it is none of a dump
abbrev pub after_command : List ℕ → Stored → Data → Option Stored
after_command word s d =
    if bytes_eq word (codes "policy.add") then added s (get (codes "document") d)
    else (if bytes_eq word (codes "root.set") then rooted s (get (codes "reference") d)
    else (if among word others then Some s else None))

-- after a line of JSON
abbrev pub after_data : Stored → Data → Option Stored
after_data s d = option_and_then (λ word. after_command word s d) (text_at (codes "do") d)

-- after a line: an empty one counts for nothing
abbrev pub after_line : Stored → List ℕ → Option Stored
after_line s [] = Some s
after_line s (byte ∷ bytes) = option_and_then (after_data s) (data_of (byte ∷ bytes))

-- after some lines, one after the other: none where one of them is none of a dump
abbrev pub after_lines : Stored → List (List ℕ) → Option Stored
after_lines s [] = Some s
after_lines s (line ∷ lines) = option_and_then (λ t. after_lines t lines) (after_line s line)

-- the lines of a text
abbrev pub lines_of : List ℕ → List (List ℕ)
lines_of text = slice_split (λ byte. nat_eq byte 10) text

-- what the lines of a text hold, if they are those of a dump
abbrev pub stored_of : List ℕ → Option Stored
stored_of text = after_lines nothing (lines_of text)

-- ---- the texts of files

-- the document that a text spells, if it spells one that may be stored
abbrev pub document_in : List ℕ → Option Tree
document_in text = option_and_then (λ d. result_ok (document_of d)) (data_of text)

-- a document has one of these keys
abbrev pub has_key : List DocKey → Tree → Bool
has_key keys document = list_any (λ key. same_key key (key_of document)) keys

-- a document is one of those that files have already
abbrev pub is_twice : List DocKey → Option Tree → Bool
is_twice keys document = option_map_or (has_key keys) document false

-- what is held after the document of a file, unless another file has it already
abbrev pub after_file : List DocKey → Stored → Option Tree → Stored
after_file keys s None = s
after_file keys s (Some document) = if has_key keys document then s else with_document s document

-- the keys of the documents of files after it
abbrev pub keys_after : List DocKey → Option Tree → List DocKey
keys_after keys None = keys
keys_after keys (Some document) = if has_key keys document then keys else keys ++ key_of document ∷ []
