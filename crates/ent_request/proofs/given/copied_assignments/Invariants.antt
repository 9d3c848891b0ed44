use Rattle.std.proofs.Common.{◌≡◌, ◌++◌, drop}
use Rattle.ent_request.proofs.given.copied_assignments.Given as goal

abbrev pub invariant-loop-assignment : goal.invariant-loop-assignment
invariant-loop-assignment l = l.copies ++ drop l.assignment-index l.assignments ≡ l.assignments
