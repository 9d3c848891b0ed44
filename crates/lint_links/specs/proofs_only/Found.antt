-- Which documents references find, of those that were looked for.
use Rattle.std.specs.Prelude.{◌≡◌, ℕ, Option, Some}
use Rattle.std.specs.BTreeMap.{get}
use Rattle.std.specs.FinMap.{entries}
use Rattle.std.specs.Option.{option_map}
use Rattle.std.specs.declared.cmp.Ordering.{Ordering}
use Rattle.ent_policy.specs.contracts.key.ReferenceOrd.TheImpl as order
use Rattle.ent_policy.specs.declared.key.Reference.{Reference}
use Rattle.ent_finder.specs.Finding.{most_recent}
use Rattle.ent_finder.specs.Slots.{Docs}
use Rattle.lint_links.specs.declared.found.FoundDocuments.{FoundDocuments}
use Rattle.lint_links.specs.proofs_only.Rows.{numbered}

-- the order of references
abbrev pub reference_cmp : Reference → Reference → Ordering
reference_cmp = (order.ghosts).cmp

-- this is the number of the document that a reference finds, if it finds one
abbrev pub IsFound : Docs → Reference → Option ℕ → Type 0
IsFound docs reference number =
    option_map (numbered (entries docs)) number ≡ option_map Some (most_recent reference docs)

-- each number that is known is the right one
abbrev pub AreFound : Docs → FoundDocuments → Type 0
AreFound docs f = (reference : Reference) (number : Option ℕ) → get reference_cmp f.numbers reference ≡ Some number
    → IsFound docs reference number
