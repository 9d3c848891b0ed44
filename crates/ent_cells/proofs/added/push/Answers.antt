use Rattle.std.proofs.Common.{◌≡◌, ◌++◌, ◌∷◌, [], ℕ, List, refl}
use Rattle.ent_eval.specs.LooksOf.{looks_of}
use Rattle.ent_request.specs.Looks.{Looks}
use Rattle.ent_cells.specs.Cell.{says}
use Rattle.ent_cells.specs.Entries.{Entry, kept_of}
use Rattle.ent_cells.specs.proofs_only.Entries.{entry_of_cell}
use Rattle.ent_cells.proofs.Listed.{more_kept, more_live}
use Rattle.ent_cells.proofs.added.push.Goals as goal

pub returns-clause-live : goal.returns-clause-live
returns-clause-live g c =
    let looks : Looks = looks_of c.args.store.now.evaluator.pdp in
    let e : Entry = entry_of_cell c.args.who (says looks c.args.who) in
    rw (c.in_ok-push.ensures.items, c.reserve.ensures.items)
    (more_live c.args.store.now.cells c.insert.new.self.cells c.args.keys.now.items c.in_ok-key.key e refl c.in_ok-key.ensures.ok c.requires)

pub returns-clause-ok : goal.returns-clause-ok
returns-clause-ok g c =
    let looks : Looks = looks_of c.args.store.now.evaluator.pdp in
    let e : Entry = entry_of_cell c.args.who (says looks c.args.who) in
    let ks : List ℕ = c.args.keys.now.items in
    let step : kept_of c.insert.new.self.cells (ks ++ c.in_ok-key.key ∷ []) ≡ kept_of c.args.store.now.cells ks ++ e.kept ∷ [] =
    more_kept c.args.store.now.cells c.insert.new.self.cells ks c.in_ok-key.key e c.in_ok-key.ensures.ok c.requires.grid in
    rw (c.in_ok-push.ensures.items, c.reserve.ensures.items) step
