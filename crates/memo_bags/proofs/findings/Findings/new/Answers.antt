use Rattle.memo_bags.specs.Findings.{IsRow}
use Rattle.ent_request.specs.declared.readers.NamePlace.TheVariants.{Person, Action, Resource}
use Rattle.memo_bags.proofs.Growing.{all_none, none_distinct}
use Rattle.memo_bags.proofs.findings.Findings.new.Goals as goal

pub returns : goal.returns
returns c = λ looks questions. record {
  distinct = none_distinct c.new.result c.new.ensures;
  people = all_none (IsRow looks questions c.new.result Person) c.new-2.result.rows.items c.new-2.ensures;
  actions = all_none (IsRow looks questions c.new.result Action) c.new-3.result.rows.items c.new-3.ensures;
  resources = all_none (IsRow looks questions c.new.result Resource) c.new-4.result.rows.items c.new-4.ensures;
}
