use Rattle.ent_index.proofs.Views.{none_puts}
use Rattle.ent_index.specs.proofs_only.Steps.{without_cell}
use Rattle.ent_index.proofs.readers.take_cell.Goals as goal

pub returns-in-None-clause-puts : goal.returns-in-None-clause-puts
returns-in-None-clause-puts c =
    none_puts c.args.readers.now c.get_mut.follows.lender-at-none c.args.key.now (λ cells. without_cell cells c.args.cell) c.get_mut.follows.holds-at-none c.in-None.ensures.value
