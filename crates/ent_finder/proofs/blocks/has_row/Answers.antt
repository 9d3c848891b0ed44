use Rattle.std.proofs.Common.{ap, is_some, length, sym, ◌∙◌}
use Rattle.std.specs.FinMap.{get}
use Rattle.ent_finder.proofs.BlockRows.{sorted_block}
use Rattle.ent_finder.proofs.Homes.{got_at, none_where, nothing_in}
use Rattle.ent_finder.specs.RowEntry.{rows_of}
use Rattle.ent_finder.proofs.blocks.has_row.Goals as goal

pub has_row-requires : goal.has_row-requires
has_row-requires c =
    rw c.deref.ensures.value (sorted_block c.args.blocks.now c.home.result c.in-Some.block.now c.in-Some.ensures.lookup.3.0 c.in-Some.ensures.lookup.1 c.requires)

-- where the home isn't there, there are no blocks
pub returns-in-None : goal.returns-in-None
returns-in-None c =
    sym (ap is_some (nothing_in c.args.key.now c.args.blocks.now (none_where c.home.result (length c.args.blocks.now) c.home.ensures.within c.in-None.ensures.lookup.3)))

pub returns-in-Some : goal.returns-in-Some
returns-in-Some c =
    let key = c.args.key.now in
    let lookup = c.in-Some.ensures.lookup in
    c.has_row.ensures ∙ ap is_some (ap (λ rs. get (rows_of rs) key) c.deref.ensures.value
    ∙ sym (got_at key c.args.blocks.now c.home.result c.in-Some.block.now lookup.3.0 lookup.1 c.requires c.home.ensures.home))
