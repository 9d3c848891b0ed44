use Rattle.std.proofs.Common.{◌≡◌, take}
use Rattle.ent_table.specs.Names.{all_triples}
use Rattle.ent_table.proofs.lists.Requests.all.Given as goal

abbrev pub invariant-loop-person : goal.invariant-loop-person
invariant-loop-person l = l.requests.items ≡ all_triples (take l.person-index l.self.people.now) l.self.actions.now l.self.resources.now
