use Rattle.std.proofs.Common.{ap, arith, length, sym, subst, ◌∙◌}
use Rattle.ent_evaluator.specs.Memory.{IsShelf}
use Rattle.ent_evaluator.specs.declared.shelf.Shelf.{Shelf}
use Rattle.ent_evaluator.specs.proofs_only.Remembered.{IsPut}
use Rattle.memo_bags.proofs.Learning.{about_all}
use Rattle.ent_evaluator.proofs.Shelved.{put_last, shelf_none, shelf_put}
use Rattle.ent_evaluator.proofs.cases.Cases.begin.Goals as goal

pub returns-clause-shelves : goal.returns-clause-shelves
returns-clause-shelves c = λ looks questions bags case are.
    let put = subst (IsPut c.args.case c.new-shelf.result.cases.items c.put.new.self.cases.items) c.in-None.is c.in_ok-put.ensures.ok in
    let none = shelf_none looks questions bags c.new-shelf.result c.new-shelf.ensures.cases c.new-shelf.ensures.tree in
    record {
      older = subst (IsShelf looks questions bags) (sym c.exchange.ensures.older) are.latest;
      latest = subst (IsShelf looks questions bags) (sym c.exchange.ensures.latest)
          (shelf_put looks questions bags c.new-shelf.result c.put.new.self c.args.case (omega (arith, ap length c.new-shelf.ensures.cases)) put
          (c.in_ok-put.ensures.index questions (about_all questions bags c.args.case.found case.findings)) case none);
    }

pub returns-clause-there : goal.returns-clause-there
returns-clause-there c =
    let put = subst (IsPut c.args.case c.new-shelf.result.cases.items c.put.new.self.cases.items) c.in-None.is c.in_ok-put.ensures.ok in
    put_last c.args.case c.exchange.new.self.older.cases.items c.exchange.new.self.latest.cases.items c.new-shelf.result.cases.items (ap (λ (s : Shelf). s.cases.items) c.exchange.ensures.latest ∙ put)
