use Rattle.ent_cells.proofs.Confirmed.{if_ok_three}
use Rattle.ent_cells.proofs.evaluate.evaluate.Goals as goal

pub returns-clause-said : goal.returns-clause-said
returns-clause-said g c =
    if_ok_three c.evaluate.result (λ e answer reads failed i. record { answer = answer i; reads = reads i; failed = failed i })
    c.evaluate.ensures.answer c.evaluate.ensures.reads c.evaluate.ensures.failed
