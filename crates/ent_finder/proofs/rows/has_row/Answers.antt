use Rattle.std.proofs.Common.{◌∙◌}
use Rattle.ent_finder.proofs.Seats.{found_or_not}
use Rattle.ent_finder.specs.RowEntry.{row_entry}
use Rattle.ent_finder.proofs.Totals.{row_cmp_total}
use Rattle.ent_finder.proofs.rows.has_row.Goals as goal

pub returns : goal.returns
returns c = c.is_ok.ensures.value ∙ found_or_not row_cmp_total row_entry c.args.key.now c.args.rows.now c.requires _ c.place.ensures.found c.place.ensures.absent
