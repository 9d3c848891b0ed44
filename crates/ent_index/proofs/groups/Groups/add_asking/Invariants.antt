use Rattle.ent_index.specs.proofs_only.Groups.{HasMore}
use Rattle.ent_index.proofs.WantedOf.{AreAsking}
use Rattle.ent_index.proofs.groups.Groups.add_asking.Given as goal

abbrev pub invariant-loop-group : goal.invariant-loop-group
invariant-loop-group l =
    (goal.iterator-loop-group).can_next l.group-iterator ×
    (goal.iterator-loop-group).is_finite l.group-iterator ×
    AreAsking l.self.groups l.number l.group-iterator l.cells ×
    HasMore l.fn.cells l.cells
