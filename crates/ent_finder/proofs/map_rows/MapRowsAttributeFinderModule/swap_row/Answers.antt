use Rattle.ent_finder.proofs.map_rows.MapRowsAttributeFinderModule.swap_row.Goals as goal

pub invariant_of-self : goal.invariant_of-self
invariant_of-self c = (c.swap_row.ensures.sorted, c.swap_row.ensures.counted, c.swap_row.ensures.few)

pub invariant_of-self-2 : goal.invariant_of-self-2
invariant_of-self-2 c = (c.swap_row.ensures.sorted, c.swap_row.ensures.counted, c.swap_row.ensures.few)
