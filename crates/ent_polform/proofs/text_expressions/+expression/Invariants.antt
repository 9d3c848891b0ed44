use Rattle.std.proofs.Common.{◌≡◌, ◌++◌, drop, map}
use Rattle.ent_json.specs.proofs_only.Text.{items_tokens_of}
use Rattle.ent_polform.specs.Written.{expression_written}
use Rattle.ent_polform.proofs.text_expressions.+expression.Given as goal

abbrev pub invariant-write_each-loop-one : goal.invariant-write_each-loop-one
invariant-write_each-loop-one l =
    l.out ++ items_tokens_of (map expression_written (drop l.one-index l.all)) ≡ l.fn.out ++ items_tokens_of (map expression_written l.all)
