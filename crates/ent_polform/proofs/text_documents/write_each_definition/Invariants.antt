use Rattle.std.proofs.Common.{◌≡◌, ◌++◌, drop, map}
use Rattle.ent_json.specs.proofs_only.Text.{items_tokens_of}
use Rattle.ent_polform.specs.Written.{definition_written}
use Rattle.ent_polform.proofs.text_documents.write_each_definition.Given as goal

abbrev pub invariant-loop-one : goal.invariant-loop-one
invariant-loop-one l =
    l.out ++ items_tokens_of (map definition_written (drop l.one-index l.all)) ≡ l.fn.out ++ items_tokens_of (map definition_written l.all)
