use Rattle.std.proofs.Common.{◌≡◌, ◌++◌, drop, map}
use Rattle.ent_json.specs.proofs_only.Text.{items_tokens_of}
use Rattle.ent_profile.specs.Response.{given_written}
use Rattle.ent_profile.proofs.given_text.write_each.Given as goal

abbrev pub invariant-loop-one : goal.invariant-loop-one
invariant-loop-one l = l.out ++ items_tokens_of (map given_written (drop l.one-index l.given)) ≡ l.fn.out ++ items_tokens_of (map given_written l.given)
