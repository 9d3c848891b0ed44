use Rattle.std.proofs.Common.{◌≡◌, ◌++◌, take}
use Rattle.ent_table.specs.Names.{with_actions}
use Rattle.ent_table.proofs.requests.add_actions.Given as goal

abbrev pub invariant-loop-action : goal.invariant-loop-action
invariant-loop-action l = l.requests.items ≡ l.fn.requests.items ++ with_actions l.person (take l.action-index l.actions) l.resources
