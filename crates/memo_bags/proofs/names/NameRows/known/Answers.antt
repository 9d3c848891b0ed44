use Rattle.std.proofs.Common.{◌≡◌, ℕ, Option, Some, None, length, slice_get, refl, sym, ap, ◌∙◌}
use Rattle.std.specs.Prelude.{IfSome}
use Rattle.std.proofs.lemmas.Option.{slice_get_read}
use Rattle.memo_bags.specs.declared.names.NameRows.{NameRows}
use Rattle.memo_bags.specs.declared.names.NameRow.{NameRow}
use Rattle.memo_bags.specs.proofs_only.Ready.{KnowsLatest}
use Rattle.memo_bags.proofs.names.NameRows.known.Goals as goal

known_in : (names : NameRows) (row : NameRow) (question : ℕ) (o : Option ℕ) → slice_get names.rows.items names.latest ≡ Some row → slice_get row.found.items question ≡ Some o → IfSome o (λ bag. KnowsLatest names question bag)
known_in names row question None at is = tt
known_in names row question (Some bag) at is = (row, (at, is))

pub returns : goal.returns
returns c =
    let names = c.args.self.now in
    let row = c.in_ok-row.row.now in
    let rows = c.deref.result.now in
    let found = c.deref-2.result.now in
    let first = c.in_ok-row.ensures.lookup in
    let second = c.in_ok-get.ensures.lookup in
    let at : slice_get names.rows.items names.latest ≡ Some row =
    ap (λ l. slice_get l names.latest) (sym c.deref.ensures.value) ∙ slice_get_read rows (length rows) names.latest row refl first.3.0 first.1 in
    let is : slice_get row.found.items c.args.question ≡ Some c.in_ok-get.field-0.now =
    ap (λ l. slice_get l c.args.question) (sym c.deref-2.ensures.value) ∙ slice_get_read found (length found) c.args.question c.in_ok-get.field-0.now refl second.3.0 second.1 in
    known_in names row c.args.question c.in_ok-get.field-0.now at is
