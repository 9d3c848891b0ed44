use Rattle.std.proofs.Common.{◌≡◌, ◌++◌, drop}
use Rattle.ent_request.proofs.answer.copied_why.Given as goal

abbrev pub invariant-loop-entry : goal.invariant-loop-entry
invariant-loop-entry l = l.copies ++ drop l.entry-index l.why ≡ l.why
