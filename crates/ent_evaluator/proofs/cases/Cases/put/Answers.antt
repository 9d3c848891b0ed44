use Rattle.std.proofs.Common.{subst, sym}
use Rattle.ent_evaluator.specs.Memory.{IsCase}
use Rattle.ent_evaluator.specs.proofs_only.Remembered.{IsPut}
use Rattle.memo_bags.proofs.Learning.{about_all}
use Rattle.ent_evaluator.proofs.Shelved.{has_same, on_false, put_last, shelf_put, shelf_same}
use Rattle.ent_evaluator.proofs.cases.Cases.put.Goals as goal

pub returns-then-is_full-clause-shelves : goal.returns-then-is_full-clause-shelves
returns-then-is_full-clause-shelves c = λ looks questions bags case are. c.begin.ensures.shelves looks questions bags case (record { older = are.older; latest = are.latest })

pub returns-in_err-put-clause-shelves : goal.returns-in_err-put-clause-shelves
returns-in_err-put-clause-shelves c = λ looks questions bags case are. record {
  older = are.older;
  latest = shelf_same looks questions bags c.args.self.now.latest c.put.new.self c.in_err-put.ensures.err (c.in_err-put.ensures.index questions (about_all questions bags c.args.case.found case.findings)) are.latest;
}

pub returns-in-None-clause-shelves : goal.returns-in-None-clause-shelves
returns-in-None-clause-shelves c = λ looks questions bags case are. record {
  older = are.older;
  latest =
      shelf_put looks questions bags c.args.self.now.latest c.put.new.self c.args.case (on_false _ _ c.if-is_full.false c.is_full.ensures)
      (subst (IsPut c.args.case c.args.self.now.latest.cases.items c.put.new.self.cases.items) c.in-None.is c.in_ok-put.ensures.ok)
      (c.in_ok-put.ensures.index questions (about_all questions bags c.args.case.found case.findings)) case are.latest;
}

pub returns-in-None-clause-there : goal.returns-in-None-clause-there
returns-in-None-clause-there c =
    put_last c.args.case c.args.self.now.older.cases.items c.put.new.self.cases.items c.args.self.now.latest.cases.items (subst (IsPut c.args.case c.args.self.now.latest.cases.items c.put.new.self.cases.items) c.in-None.is c.in_ok-put.ensures.ok)

pub returns-in-Some-clause-shelves : goal.returns-in-Some-clause-shelves
returns-in-Some-clause-shelves c = λ looks questions bags case are.
    let given = subst (IsPut c.args.case c.args.self.now.latest.cases.items c.put.new.self.cases.items) c.in-Some.is c.in_ok-put.ensures.ok in
    c.begin-in-Some.ensures.shelves looks questions bags (subst (IsCase looks questions bags) (sym given.0) case) (record {
      older = are.older;
      latest = shelf_same looks questions bags c.args.self.now.latest c.put.new.self given.1 (c.in_ok-put.ensures.index questions (about_all questions bags c.args.case.found case.findings)) are.latest;
    })

pub returns-in-Some-clause-there : goal.returns-in-Some-clause-there
returns-in-Some-clause-there c =
    let given = subst (IsPut c.args.case c.args.self.now.latest.cases.items c.put.new.self.cases.items) c.in-Some.is c.in_ok-put.ensures.ok in
    has_same c.begin-in-Some.result c.in-Some.case c.args.case c.begin-in-Some.new.self given.0 c.begin-in-Some.ensures.there
