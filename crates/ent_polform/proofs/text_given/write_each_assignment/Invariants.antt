use Rattle.std.proofs.Common.{◌≡◌, ◌++◌, drop, map}
use Rattle.ent_json.specs.proofs_only.Text.{items_tokens_of}
use Rattle.ent_polform.specs.Written.{assignment_written}
use Rattle.ent_polform.proofs.text_given.write_each_assignment.Given as goal

abbrev pub invariant-loop-one : goal.invariant-loop-one
invariant-loop-one l =
    l.out ++ items_tokens_of (map assignment_written (drop l.one-index l.all)) ≡ l.fn.out ++ items_tokens_of (map assignment_written l.all)
