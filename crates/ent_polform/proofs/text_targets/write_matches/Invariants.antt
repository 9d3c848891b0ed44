use Rattle.std.proofs.Common.{◌≡◌, ◌++◌, drop, map}
use Rattle.ent_json.specs.proofs_only.Text.{items_tokens_of}
use Rattle.ent_polform.specs.Written.{match_written}
use Rattle.ent_polform.proofs.text_targets.write_matches.Given as goal

abbrev pub invariant-loop-test : goal.invariant-loop-test
invariant-loop-test l =
    l.out ++ items_tokens_of (map match_written (drop l.test-index l.tests)) ≡ l.fn.out ++ items_tokens_of (map match_written l.tests)
