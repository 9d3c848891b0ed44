use Rattle.std.proofs.Common.{◌≡◌, ◌++◌, drop, map}
use Rattle.ent_json.specs.proofs_only.Text.{items_tokens_of}
use Rattle.ent_profile.specs.Response.{assignment_written}
use Rattle.ent_profile.proofs.given_text.write_assignments.Given as goal

abbrev pub invariant-loop-assignment : goal.invariant-loop-assignment
invariant-loop-assignment l = l.out ++ items_tokens_of (map assignment_written (drop l.assignment-index l.assignments)) ≡ l.fn.out ++ items_tokens_of (map assignment_written l.assignments)
