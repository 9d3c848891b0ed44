-- What documents come to under a root: to which of them it leads, and how many one request may have it follow.
use Rattle.std.specs.Prelude.{ℕ, zero, suc, List, [], ◌∷◌, Bool, not, Option, Some, None, is_some, map, if◌then◌else◌}
use Rattle.std.specs.FinMap.{entries}
use Rattle.std.specs.List.{filter, sum_by}
use Rattle.ent_policy.specs.declared.document.Tree.{Tree}
use Rattle.ent_policy.specs.declared.key.DocKey.{DocKey}
use Rattle.ent_policy.specs.declared.key.Reference.{Reference}
use Rattle.ent_finder.specs.Finding.{most_recent}
use Rattle.ent_finder.specs.Slots.{Docs}
use Rattle.lint_reach.specs.Reached.{is_reached}
use Rattle.lint_links.specs.Together.{leads_to}

-- the root doesn't lead to the document with that key, where one module holds them all
abbrev pub is_unreached : Docs → Option Reference → DocKey → Bool
is_unreached docs root key = not (is_reached (docs ∷ []) root (record { number = 0; key = key }))

-- the keys of the documents to which the root doesn't lead, in their order
abbrev pub unreached : Docs → Option Reference → List DocKey
unreached docs root = filter (is_unreached docs root) (map (λ e. e.0) (entries docs))

-- how many documents one request may have it follow from a document over at most so many references: each as often as references lead to it
abbrev pub followed : Docs → ℕ → Tree → ℕ
followed docs zero document = 0
followed docs (suc hops) document = sum_by (λ d. suc (followed docs hops d)) (leads_to docs document)

-- a root that finds no document is a fault
abbrev pub root_faults : Docs → Option Reference → ℕ
root_faults docs None = 0
root_faults docs (Some root) = if is_some (most_recent root docs) then 0 else 1
