-- Laws of documents that are stored together.
use Rattle.std.specs.Prelude.{◌≡◌, Some, true, false}
use Rattle.std.specs.FinMap.{get}
use Rattle.ent_policy.specs.declared.document.Tree.{Tree}
use Rattle.ent_policy.specs.declared.key.DocKey.{DocKey}
use Rattle.ent_finder.specs.Finding.{has_document, names}
use Rattle.ent_finder.specs.Slots.{Docs}
use Rattle.lint_links.specs.Together.{IsEndless, finds_none, is_endless}
use Rattle.lint_links.specs.declared.placed.PlacedReference.{PlacedReference}

-- where a reference finds none, it names no document that is held
abbrev pub UnfoundNamesNone : Type 0
UnfoundNamesNone = (docs : Docs) (placed : PlacedReference) → finds_none docs placed ≡ true
    → (key : DocKey) → has_document key docs ≡ true → names placed.reference key ≡ false

-- what passes the test leads on without end
abbrev pub EndlessIsWithoutEnd : Type 0
EndlessIsWithoutEnd = (docs : Docs) (key : DocKey) (document : Tree) → get docs key ≡ Some document
    → is_endless docs document ≡ true → IsEndless docs document
