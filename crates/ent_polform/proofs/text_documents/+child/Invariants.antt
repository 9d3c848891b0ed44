use Rattle.std.proofs.Common.{◌≡◌, ◌++◌, drop, map}
use Rattle.ent_json.specs.proofs_only.Text.{items_tokens_of}
use Rattle.ent_polform.specs.Written.{child_written}
use Rattle.ent_polform.proofs.text_documents.+child.Given as goal

abbrev pub invariant-write_each_child-loop-one : goal.invariant-write_each_child-loop-one
invariant-write_each_child-loop-one l =
    l.out ++ items_tokens_of (map child_written (drop l.one-index l.all)) ≡ l.fn.out ++ items_tokens_of (map child_written l.all)
