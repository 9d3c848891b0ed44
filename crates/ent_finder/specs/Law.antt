-- Laws of what is held and what is found.
use Rattle.std.specs.Prelude.{◌≡◌, ◌⊎◌, ℕ, ◌<◌, List, Option, Some, None, false, true, length}
use Rattle.std.specs.FinMap.{get, insert}
use Rattle.ent_policy.specs.declared.document.Tree.{Tree}
use Rattle.ent_policy.specs.declared.key.DocKey.{DocKey}
use Rattle.ent_policy.specs.declared.key.Reference.{Reference}
use Rattle.ent_finder.specs.Finding.{has_document, is_earlier, is_of, most_recent, names, resolved}
use Rattle.ent_finder.specs.Slots.{Docs, Slots, document_at, held, module_at, with_document, with_document_in}

-- ---- swaps

-- a swap puts one document in place or takes it away, and leaves the others as they are
abbrev pub SwapChangesOneDocument : Type 0
SwapChangesOneDocument = (slots : Slots) (key : DocKey) (document : Option Tree) → held (insert slots key document) ≡ with_document (held slots) key document

-- the slot is there afterwards, with what was put in, so that a second swap is not refused and gives that back
abbrev pub SwapLeavesSlot : Type 0
SwapLeavesSlot = (slots : Slots) (key : DocKey) (document : Option Tree) → get (insert slots key document) key ≡ Some document

-- after a second swap, of what the first one gave, the documents are as before both
abbrev pub SecondSwapRestoresDocuments : Type 0
SecondSwapRestoresDocuments = (slots : Slots) (key : DocKey) (document : Option Tree) → held (insert (insert slots key document) key (document_at slots key)) ≡ held slots

-- and if the slot was there, the slots are as before both
abbrev pub SecondSwapRestoresSlots : Type 0
SecondSwapRestoresSlots = (slots : Slots) (key : DocKey) (before document : Option Tree) → get slots key ≡ Some before → insert (insert slots key document) key before ≡ slots

-- ---- references

-- a document is held under that key, the reference names it, and every other document that it names is earlier
pub record IsMostRecent (reference : Reference) (docs : Docs) (key : DocKey) (document : Tree) : Type 0 where
  pub is_held : get docs key ≡ Some document
  pub is_named : names reference key ≡ true
  pub is_latest : (other : DocKey) → has_document other docs ≡ true → names reference other ≡ true → (other ≡ key) ⊎ (is_earlier other key ≡ true)

-- that is so of the most recent document
abbrev pub MostRecentIsLatest : Type 0
MostRecentIsLatest = (reference : Reference) (docs : Docs) (document : Tree) → most_recent reference docs ≡ Some document → (key : DocKey) × IsMostRecent reference docs key document

-- where there is none, the reference names no document that is held
abbrev pub NoneIsNamed : Type 0
NoneIsNamed = (reference : Reference) (docs : Docs) → most_recent reference docs ≡ None → (key : DocKey) → has_document key docs ≡ true → names reference key ≡ false

-- the document is the most recent one of its module, and no module in front of that one has any
pub record IsOfFirst (reference : Reference) (modules : List Docs) (number : ℕ) (document : Tree) : Type 0 where
  pub is_module : number < length modules
  pub is_most_recent : most_recent reference (module_at modules number) ≡ Some document
  pub is_first : (earlier : ℕ) → earlier < number → most_recent reference (module_at modules earlier) ≡ None

-- that is so of the document that is resolved, whatever later modules hold
abbrev pub FirstModuleAnswers : Type 0
FirstModuleAnswers = (reference : Reference) (modules : List Docs) (number : ℕ) (document : Tree) → resolved reference modules ≡ Some (number, document) → IsOfFirst reference modules number document

-- where none is resolved, no module has any
abbrev pub NoModuleAnswers : Type 0
NoModuleAnswers = (reference : Reference) (modules : List Docs) → resolved reference modules ≡ None → (number : ℕ) → number < length modules → most_recent reference (module_at modules number) ≡ None

-- a reference of another kind or id finds what it found, whatever is put under a key or taken away
abbrev pub SwapLeavesOtherReferences : Type 0
SwapLeavesOtherReferences =
    (reference : Reference) (modules : List Docs) (number : ℕ) (key : DocKey) (document : Option Tree) → is_of reference key ≡ false → resolved reference (with_document_in modules number key document) ≡ resolved reference modules
