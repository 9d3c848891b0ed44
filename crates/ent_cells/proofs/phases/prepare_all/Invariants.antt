use Rattle.std.proofs.Common.{take}
use Rattle.ent_eval.specs.Evaluator.{OnlyCounts}
use Rattle.ent_eval.specs.LooksOf.{looks_of}
use Rattle.ent_cells.specs.Count.{Counts}
use Rattle.ent_cells.specs.proofs_only.Phases.{IsPrepared}
use Rattle.ent_cells.proofs.phases.prepare_all.Given as goal

abbrev pub invariant-loop-key : goal.invariant-loop-key
invariant-loop-key g l = record {
  ready : IsPrepared (looks_of l.fn.store.evaluator.pdp) (take l.key-index l.keys) l.fn.store.cells l.store.cells;
  counted : Counts l.fn.store.evaluator.pdp.evaluations l.store.evaluator.pdp.evaluations l.key-index;
  rest : OnlyCounts l.fn.store.evaluator.pdp l.store.evaluator.pdp;
}
