-- What documents come to that are stored together.
use Rattle.std.specs.Prelude.{◌≡◌, ℕ, zero, suc, ◌+◌, List, length, Bool, true, false, not, is_some, map}
use Rattle.std.specs.FinMap.{entries, len}
use Rattle.std.specs.List.{filter, filter_map, list_any, sum_by}
use Rattle.ent_policy.specs.declared.document.Tree.{Tree}
use Rattle.ent_policy.specs.declared.key.DocKey.{DocKey}
use Rattle.ent_policy.specs.declared.key.Reference.{Reference}
use Rattle.ent_finder.specs.Finding.{is_of, most_recent}
use Rattle.ent_finder.specs.Slots.{Docs}
use Rattle.lint_links.specs.References.{references_of}
use Rattle.lint_links.specs.declared.placed.PlacedReference.{PlacedReference}

-- a reference finds none of these documents
abbrev pub finds_none : Docs → PlacedReference → Bool
finds_none docs placed = not (is_some (most_recent placed.reference docs))

-- the references of a document that find none
abbrev pub unfound : Docs → Tree → List PlacedReference
unfound docs document = filter (finds_none docs) (references_of document)

-- of these documents, by their keys, the keys of those that have the kind and the id of a reference
abbrev pub namesakes : List (DocKey × Tree) → Reference → List DocKey
namesakes es reference = filter (is_of reference) (map (λ e. e.0) es)

-- the documents that the references of a document find, as often as they find it
abbrev pub leads_to : Docs → Tree → List Tree
leads_to docs document = filter_map (λ placed. most_recent placed.reference docs) (references_of document)

-- a chain of so many references begins in a document
abbrev pub has_chain : Docs → ℕ → Tree → Bool
has_chain docs zero document = true
has_chain docs (suc hops) document = list_any (has_chain docs hops) (leads_to docs document)

-- the references of a document lead on without end, so they lead into a circle
abbrev pub IsEndless : Docs → Tree → Type 0
IsEndless docs document = (hops : ℕ) → has_chain docs hops document ≡ true

-- a test of that: a chain begins in it that has as many references as there are documents
abbrev pub is_endless : Docs → Tree → Bool
is_endless docs = has_chain docs (len docs)

-- how many lines tell how far a document leads: one where into a circle, or else over more references than are followed
abbrev pub far : Bool → Bool → ℕ
far true is_long = 1
far false true = 1
far false false = 0

-- a chain of more than six references begins in a document (a seventh isn't followed)
abbrev pub is_long : Docs → Tree → Bool
is_long docs = has_chain docs 7

-- how many faults a document has among these
abbrev pub faults_of : Docs → Tree → ℕ
faults_of docs document = length (unfound docs document) + far (is_endless docs document) (is_long docs document)

-- how many faults documents have together
abbrev pub faults_together : Docs → ℕ
faults_together docs = sum_by (λ e. faults_of docs e.1) (entries docs)
