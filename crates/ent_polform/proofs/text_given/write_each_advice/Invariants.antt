use Rattle.std.proofs.Common.{◌≡◌, ◌++◌, drop, map, codes}
use Rattle.ent_json.specs.proofs_only.Text.{items_tokens_of}
use Rattle.ent_polform.specs.Written.{given_written}
use Rattle.ent_polform.proofs.text_given.write_each_advice.Given as goal

abbrev pub invariant-loop-one : goal.invariant-loop-one
invariant-loop-one l =
    l.out ++ items_tokens_of (map (given_written (codes "AdviceId") (codes "AppliesTo")) (drop l.one-index l.all)) ≡ l.fn.out ++ items_tokens_of (map (given_written (codes "AdviceId") (codes "AppliesTo")) l.all)
