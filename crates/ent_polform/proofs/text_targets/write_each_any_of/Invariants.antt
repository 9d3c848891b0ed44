use Rattle.std.proofs.Common.{◌≡◌, ◌++◌, drop, map}
use Rattle.ent_json.specs.proofs_only.Text.{items_tokens_of}
use Rattle.ent_polform.specs.Written.{any_of_written}
use Rattle.ent_polform.proofs.text_targets.write_each_any_of.Given as goal

abbrev pub invariant-loop-member : goal.invariant-loop-member
invariant-loop-member l =
    l.out ++ items_tokens_of (map any_of_written (drop l.member-index l.members)) ≡ l.fn.out ++ items_tokens_of (map any_of_written l.members)
