use Rattle.std.proofs.Common.{arith, subst}
use Rattle.std.proofs.ByRecursion.{All-more}
use Rattle.std.proofs.lemmas.List.{take_all}
use Rattle.memo_plan.specs.Plan.{ItemFits}
use Rattle.memo_plan.specs.declared.task.Entry.{Entry}
use Rattle.ent_evaluator.proofs.plan.fit.Goals as goal

pub loop-entry-preserved : goal.loop-entry-preserved
loop-entry-preserved g c =
    let P : Entry → Type 0 = λ (e : Entry). ItemFits (g.L.LookUps.looks c.args.held.now) e.item in
    All-more P c.args.entries.now c.loop-entry.entry-index c.entry-item.result c.loop-entry-test.true c.loop-entry.invariant
    (subst P c.entry-item.is (c.fits.ensures c.if-not-fits.false))

pub returns : goal.returns
returns g c = λ so. rw (← take_all c.loop-entry.entry-index c.args.entries.now (omega arith)) c.loop-entry.invariant
