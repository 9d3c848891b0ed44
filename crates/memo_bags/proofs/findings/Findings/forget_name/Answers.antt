use Rattle.ent_request.specs.declared.readers.NamePlace.TheVariants.{Person, Action, Resource}
use Rattle.memo_bags.proofs.RowsStill.{rows_forgotten}
use Rattle.memo_bags.proofs.findings.Findings.forget_name.Goals as goal

pub returns-clause-kept : goal.returns-clause-kept
returns-clause-kept c = λ before after questions same are.
    let old = c.args.self.now in
    let name = c.args.name.now in
    record {
      distinct = are.distinct;
      people = rows_forgotten before after questions old.bags Person name old.people.rows.items c.forget.new.self.rows.items same c.forget.ensures are.people;
      actions = rows_forgotten before after questions old.bags Action name old.actions.rows.items c.forget-2.new.self.rows.items same c.forget-2.ensures are.actions;
      resources = rows_forgotten before after questions old.bags Resource name old.resources.rows.items c.forget-3.new.self.rows.items same c.forget-3.ensures are.resources;
    }
