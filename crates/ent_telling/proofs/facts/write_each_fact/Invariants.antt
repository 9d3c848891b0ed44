use Rattle.std.proofs.Common.{◌≡◌, ◌++◌, drop, map}
use Rattle.ent_eval.specs.LooksOf.{held_by}
use Rattle.ent_json.specs.proofs_only.Text.{items_tokens_of}
use Rattle.ent_telling.specs.Facts.{fact_data}
use Rattle.ent_telling.proofs.facts.write_each_fact.Given as goal

abbrev pub invariant-loop-key : goal.invariant-loop-key
invariant-loop-key g l =
    let told = fact_data l.whole (held_by l.pdp) in
    l.out ++ items_tokens_of (map told (drop l.key-index l.keys)) ≡ l.fn.out ++ items_tokens_of (map told l.keys)
