use Rattle.std.proofs.Common.{◌≡◌, ◌++◌, drop, map}
use Rattle.ent_json.specs.proofs_only.Text.{items_tokens_of}
use Rattle.ent_polform.specs.Written.{value_written}
use Rattle.ent_telling.proofs.attributes.write_each_value.Given as goal

abbrev pub invariant-loop-value : goal.invariant-loop-value
invariant-loop-value l =
    l.out ++ items_tokens_of (map value_written (drop l.value-index l.values)) ≡ l.fn.out ++ items_tokens_of (map value_written l.values)
