use Rattle.std.proofs.Common.{◌≡◌, ◌++◌, length, map}
use Rattle.ent_eval.specs.Evaluator.{OnlyCounts}
use Rattle.ent_eval.specs.LooksOf.{looks_of}
use Rattle.ent_cells.specs.Cell.{cell_of}
use Rattle.ent_cells.specs.Count.{Counts}
use Rattle.ent_cells.specs.Entries.{IsLive, kept_of}
use Rattle.ent_cells.proofs.added.push_all.Given as goal

abbrev pub invariant-loop-who : goal.invariant-loop-who
invariant-loop-who g l = record {
  live : IsLive l.store.cells l.keys.items;
  cells : kept_of l.store.cells l.keys.items
      ≡ kept_of l.initial.store.cells l.initial.keys.items ++ map (cell_of (looks_of l.initial.store.evaluator.pdp)) l.yielded;
  counted : Counts l.initial.store.evaluator.pdp.evaluations l.store.evaluator.pdp.evaluations (length l.yielded);
  rest : OnlyCounts l.initial.store.evaluator.pdp l.store.evaluator.pdp;
}
