use Rattle.std.proofs.Common.{◌≡◌, ◌++◌, List, map, append-nil, refl, sym, ◌∙◌}
use Rattle.ent_eval.specs.LooksOf.{looks_of}
use Rattle.ent_request.specs.Looks.{Looks}
use Rattle.ent_cells.specs.Cell.{Kept, cell_of}
use Rattle.ent_cells.specs.Entries.{kept_of}
use Rattle.ent_cells.proofs.Listed.{first_kept}
use Rattle.ent_cells.proofs.StoreSteps.{on_err}
use Rattle.ent_cells.proofs.Tally.{counts_none}
use Rattle.ent_cells.proofs.added.push_all.Goals as goal

pub loop-who-init : goal.loop-who-init
loop-who-init g c =
    let looks : Looks = looks_of c.args.store.now.evaluator.pdp in
    record {
      live = c.requires;
      cells = sym (append-nil (kept_of c.args.store.now.cells c.args.keys.now.items));
      counted = counts_none c.args.store.now.evaluator.pdp.evaluations;
      rest = refl;
    }

pub returns-in_err-push-clause-err : goal.returns-in_err-push-clause-err
returns-in_err-push-clause-err g c =
    let looks : Looks = looks_of c.args.store.now.evaluator.pdp in
    let done : List Kept = map (cell_of looks) c.loop-who.yielded in
    let is : kept_of c.push.new.store.cells c.push.new.keys.items ≡ kept_of c.args.store.now.cells c.args.keys.now.items ++ done = c.in_err-push.ensures.err ∙ c.loop-who.invariant.cells in
    on_err c.from_residual.result (first_kept c.args.store.now.cells c.push.new.store.cells c.args.keys.now.items c.push.new.keys.items done c.requires.grid is)
