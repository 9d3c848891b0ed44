use Rattle.std.proofs.Common.{[], ◌∷◌, ap, sym, ◌∙◌, arith}
use Rattle.std.specs.List.{cons_option}
use Rattle.ent_cells.specs.proofs_only.Logging.{gone_in}
use Rattle.ent_cells.proofs.Logging.{puts-as}
use Rattle.ent_cells.proofs.blocks.remove_one.Goals as goal

pub returns-in-Some-clause-logged : goal.returns-in-Some-clause-logged
returns-in-Some-clause-logged g c =
    puts-as (c.in-Some.old ∷ []) (gone_in c.args.store.now.cells (c.args.key ∷ [])) c.args.log.now c.put.new.self
    (ap (λ o. cons_option o []) (sym c.in-Some.is ∙ c.remove.ensures.gone))
    (record { from = c.put.ensures.from; serial = c.put.ensures.serial; room = omega (arith, c.put.ensures.room); kept = c.put.ensures.kept })
