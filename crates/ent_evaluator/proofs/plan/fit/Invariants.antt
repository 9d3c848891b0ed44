use Rattle.std.proofs.Common.{take}
use Rattle.std.specs.List.{AllByRecursion}
use Rattle.memo_plan.specs.Plan.{ItemFits}
use Rattle.memo_plan.specs.declared.task.Entry.{Entry}
use Rattle.ent_evaluator.proofs.plan.fit.Given as goal

-- those so far do
abbrev pub invariant-loop-entry : goal.invariant-loop-entry
invariant-loop-entry g l = AllByRecursion (λ (e : Entry). ItemFits (g.L.LookUps.looks l.held) e.item) (take l.entry-index l.entries)
