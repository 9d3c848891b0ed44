-- A reference that finds none names none.
use Rattle.std.proofs.Common.{◌≡◌, true, false, not, Option, Some, None, refl}
use Rattle.std.specs.Option.{is_some}
use Rattle.ent_policy.specs.declared.document.Tree.{Tree}
use Rattle.ent_policy.specs.declared.key.DocKey.{DocKey}
use Rattle.ent_finder.proofs.Latest.{none_named}
use Rattle.ent_finder.specs.Finding.{has_document, most_recent, names}
use Rattle.ent_finder.specs.Slots.{Docs}
use Rattle.lint_links.specs.Together.{finds_none}
use Rattle.lint_links.specs.declared.placed.PlacedReference.{PlacedReference}

nothing : (o : Option Tree) → not (is_some o) ≡ true → o ≡ None
nothing None h = refl
nothing (Some document) h = absurd (let bad : false ≡ true = h in cc)

pub names_none : (docs : Docs) (placed : PlacedReference) → finds_none docs placed ≡ true → (key : DocKey) → has_document key docs ≡ true → names placed.reference key ≡ false
names_none docs placed h = none_named placed.reference docs (nothing (most_recent placed.reference docs) h)
