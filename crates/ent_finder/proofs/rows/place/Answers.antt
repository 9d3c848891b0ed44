use Rattle.std.proofs.Common.{rules}
use Rattle.std.proofs.lemmas.Fn.{always_returns_same}
use Rattle.ent_finder.proofs.Seats.{searched}
use Rattle.ent_finder.specs.RowEntry.{row_entry}
use Rattle.ent_finder.specs.Rows.{row_cmp}
use Rattle.ent_finder.proofs.Totals.{row_cmp_total}
use Rattle.ent_finder.proofs.rows.place.Goals as goal

-- the closure compares a row's key with the key
pub returns : goal.returns
returns c =
    let facts = c.binary_search_by.ensures in
    let by_key = facts.position (λ r. row_cmp r.key c.args.key.now) (always_returns_same _ _ _ (λ a r f called. search rules)) in
    searched row_cmp_total row_entry c.args.rows.now c.args.key.now c.requires _ facts.bound by_key
