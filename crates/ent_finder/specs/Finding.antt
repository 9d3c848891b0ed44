-- The documents that a reference names (sections 5.10 and 5.11), and the one that it finds.
use Rattle.std.specs.Prelude.{ℕ, List, Bool, not, ◌&&◌, Option, bytes_eq, find, slice_get}
use Rattle.std.specs.FinMap.{contains_key, entries}
use Rattle.std.specs.List.{enumerate_from, filter, filter_map, list_any}
use Rattle.std.specs.Option.{option_map}
use Rattle.std.specs.Cmp.Lexicographic.{slice_cmp}
use Rattle.std.specs.Ordering.{is_lt, nat_cmp}
use Rattle.ent_policy.specs.Constraints.{meets}
use Rattle.ent_policy.specs.Same.{same_kind}
use Rattle.ent_policy.specs.declared.document.Tree.{Tree}
use Rattle.ent_policy.specs.declared.key.DocKey.{DocKey}
use Rattle.ent_policy.specs.declared.key.Reference.{Reference}
use Rattle.ent_finder.specs.Slots.{Docs}

-- a document with that key is among these
abbrev pub has_document : DocKey → Docs → Bool
has_document key docs = contains_key docs key

-- kind and id are the reference's
abbrev pub is_of : Reference → DocKey → Bool
is_of reference key = same_kind reference.kind key.kind && bytes_eq reference.id key.id

-- kind and id are the reference's, and the version meets its constraints
abbrev pub names : Reference → DocKey → Bool
names reference key = is_of reference key && meets reference.constraints key.version

-- the version of the first key is earlier than that of the second
abbrev pub is_earlier : DocKey → DocKey → Bool
is_earlier first second = is_lt (slice_cmp nat_cmp first.version second.version)

-- the documents that a reference names
abbrev pub named : Reference → Docs → List (DocKey × Tree)
named reference docs = filter (λ e. names reference e.0) (entries docs)

-- an entry than whose version none of these is later
abbrev pub is_latest : List (DocKey × Tree) → DocKey × Tree → Bool
is_latest es e = not (list_any (λ other. is_earlier e.0 other.0) es)

-- of the documents that a reference names, the one than which none is later
abbrev pub most_recent : Reference → Docs → Option Tree
most_recent reference docs = option_map (λ e. e.1) (find (is_latest (named reference docs)) (named reference docs))

-- the most recent document of each module in which there is one, with the module's number
abbrev pub most_recent_of_each : Reference → List Docs → List (ℕ × Tree)
most_recent_of_each reference modules = filter_map (λ m. option_map (λ document. (m.0, document)) (most_recent reference m.1)) (enumerate_from 0 modules)

-- that of the first module in which there is one, with the module's number
abbrev pub resolved : Reference → List Docs → Option (ℕ × Tree)
resolved reference modules = slice_get (most_recent_of_each reference modules) 0

-- the document that a reference finds
abbrev pub found : Reference → List Docs → Option Tree
found reference modules = option_map (λ answer. answer.1) (resolved reference modules)
