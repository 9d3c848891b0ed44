-- What a module of documents has: slots by key, and the documents in them.
use Rattle.std.specs.Prelude.{ℕ, List, Option, Some, None, slice_index_or, slice_set}
use Rattle.std.specs.FinMap.{FinMap, empty, entries, from_entries, get, insert, len, remove}
use Rattle.std.specs.List.{filter_map, sum_by}
use Rattle.std.specs.Option.{option_flatten, option_map}
use Rattle.std.specs.declared.cmp.Ordering.{Ordering}
use Rattle.ent_policy.specs.contracts.key.DocKeyOrd.TheImpl.{ghosts}
use Rattle.ent_policy.specs.declared.document.Tree.{Tree}
use Rattle.ent_policy.specs.declared.key.DocKey.{DocKey}

-- the order of keys: by kind, then by id, then by version
abbrev pub key_cmp : DocKey → DocKey → Ordering
key_cmp = ghosts.cmp

-- slots by key, of which some are empty
abbrev pub Slots : Type 0
Slots = FinMap key_cmp (Option Tree)

-- documents by key
abbrev pub Docs : Type 0
Docs = FinMap key_cmp Tree

-- the document of an entry, unless the entry is an empty slot
abbrev pub filled_entry : DocKey × Option Tree → Option (DocKey × Tree)
filled_entry e = option_map (λ document. (e.0, document)) e.1

-- the documents of the slots that aren't empty
abbrev pub held : Slots → Docs
held slots = from_entries (filter_map filled_entry (entries slots))

-- the document in the slot of a key, if the slot is there and isn't empty
abbrev pub document_at : Slots → DocKey → Option Tree
document_at slots key = option_flatten (get slots key)

-- the documents with that one under the key, or with none under it
abbrev pub with_document : Docs → DocKey → Option Tree → Docs
with_document docs key None = remove docs key
with_document docs key (Some document) = insert docs key document

-- the module of that number, counted from 0
abbrev pub module_at : {X : Type 0} → List (FinMap key_cmp X) → ℕ → FinMap key_cmp X
module_at modules number = slice_index_or modules number empty

-- the modules with that document under the key in one of them, or with none under it
abbrev pub with_document_in : List Docs → ℕ → DocKey → Option Tree → List Docs
with_document_in modules number key document = slice_set modules number (with_document (module_at modules number) key document)

-- how many documents several modules hold
abbrev pub document_count : List Docs → ℕ
document_count = sum_by len
