use Rattle.ent_request.specs.declared.readers.NamePlace.TheVariants.{Person, Action, Resource}
use Rattle.memo_bags.specs.Findings.{IsRow}
use Rattle.memo_bags.proofs.Growing.{all_none}
use Rattle.memo_bags.proofs.findings.Findings.forget_names.Goals as goal

pub returns-clause-kept : goal.returns-clause-kept
returns-clause-kept c = λ looks other questions are. record {
  distinct = are.distinct;
  people = all_none (IsRow other questions c.args.self.now.bags Person) c.new.result.rows.items c.new.ensures;
  actions = all_none (IsRow other questions c.args.self.now.bags Action) c.new-2.result.rows.items c.new-2.ensures;
  resources = all_none (IsRow other questions c.args.self.now.bags Resource) c.new-3.result.rows.items c.new-3.ensures;
}
