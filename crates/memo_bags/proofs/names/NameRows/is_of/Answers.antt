use Rattle.std.proofs.Common.{◌≡◌, Some, length, slice_get, refl, sym, ap, ◌∙◌}
use Rattle.std.proofs.lemmas.Option.{slice_get_read}
use Rattle.memo_bags.proofs.Placed.{not_its}
use Rattle.memo_bags.proofs.names.NameRows.is_of.Goals as goal

pub returns-in-Some-clause-is : goal.returns-in-Some-clause-is
returns-in-Some-clause-is c =
    let found = c.in-Some.ensures.lookup in
    let rows = c.deref.result.now in
    let at : slice_get c.args.self.now.rows.items c.args.place ≡ Some c.in-Some.row.now =
    ap (λ l. slice_get l c.args.place) (sym c.deref.ensures.value) ∙ slice_get_read rows (length rows) c.args.place c.in-Some.row.now refl found.3.0 found.1 in
    λ h. (c.in-Some.row.now, (at, c.same_name.ensures.0 h))

pub returns-in-Some-clause-other : goal.returns-in-Some-clause-other
returns-in-Some-clause-other c =
    let found = c.in-Some.ensures.lookup in
    let rows = c.deref.result.now in
    let at : slice_get c.args.self.now.rows.items c.args.place ≡ Some c.in-Some.row.now =
    ap (λ l. slice_get l c.args.place) (sym c.deref.ensures.value) ∙ slice_get_read rows (length rows) c.args.place c.in-Some.row.now refl found.3.0 found.1 in
    not_its c.same_name.result c.args.self.now.rows.items c.args.place c.in-Some.row.now c.args.name.now at c.same_name.ensures
