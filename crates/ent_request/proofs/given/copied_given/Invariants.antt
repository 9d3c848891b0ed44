use Rattle.std.proofs.Common.{◌≡◌, ◌++◌, drop}
use Rattle.ent_request.proofs.given.copied_given.Given as goal

abbrev pub invariant-loop-one : goal.invariant-loop-one
invariant-loop-one l = l.copies ++ drop l.one-index l.given ≡ l.given
