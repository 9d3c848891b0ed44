use Rattle.ent_request.specs.declared.readers.NamePlace.TheVariants.{Person, Action, Resource}
use Rattle.memo_bags.proofs.Learning.{added_rows}
use Rattle.memo_bags.proofs.findings.Findings.turn_to.Goals as goal

pub returns-in_err-turn_to-clause-kept : goal.returns-in_err-turn_to-clause-kept
returns-in_err-turn_to-clause-kept g c = λ looks questions has. record {
  distinct = has.distinct;
  people = added_rows looks questions c.args.self.now.bags Person c.args.self.now.people.rows.items c.turn_to.new.self.rows.items c.in_err-turn_to.ensures.rows has.people;
  actions = has.actions;
  resources = has.resources;
}

pub returns-in_err-turn_to-2-clause-kept : goal.returns-in_err-turn_to-2-clause-kept
returns-in_err-turn_to-2-clause-kept g c = λ looks questions has. record {
  distinct = has.distinct;
  people = added_rows looks questions c.args.self.now.bags Person c.args.self.now.people.rows.items c.turn_to.new.self.rows.items c.in_ok-turn_to.ensures.rows has.people;
  actions = added_rows looks questions c.args.self.now.bags Action c.args.self.now.actions.rows.items c.turn_to-2.new.self.rows.items c.in_err-turn_to-2.ensures.rows has.actions;
  resources = has.resources;
}

pub returns-clause-kept : goal.returns-clause-kept
returns-clause-kept g c = λ looks questions has. record {
  distinct = has.distinct;
  people = added_rows looks questions c.args.self.now.bags Person c.args.self.now.people.rows.items c.turn_to.new.self.rows.items c.in_ok-turn_to.ensures.rows has.people;
  actions = added_rows looks questions c.args.self.now.bags Action c.args.self.now.actions.rows.items c.turn_to-2.new.self.rows.items c.in_ok-turn_to-2.ensures.rows has.actions;
  resources = added_rows looks questions c.args.self.now.bags Resource c.args.self.now.resources.rows.items c.turn_to-3.new.self.rows.items c.turn_to-3.ensures.rows has.resources;
}
