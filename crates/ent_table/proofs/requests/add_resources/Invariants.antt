use Rattle.std.proofs.Common.{◌≡◌, ◌++◌, take}
use Rattle.ent_table.specs.Names.{with_resources}
use Rattle.ent_table.proofs.requests.add_resources.Given as goal

abbrev pub invariant-loop-resource : goal.invariant-loop-resource
invariant-loop-resource l = l.requests.items ≡ l.fn.requests.items ++ with_resources l.person l.action (take l.resource-index l.resources)
