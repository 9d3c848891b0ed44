use Rattle.std.proofs.Common.{◌≡◌, ◌++◌, drop, map}
use Rattle.ent_json.specs.proofs_only.Text.{items_tokens_of}
use Rattle.ent_telling.specs.Causes.{cause_data}
use Rattle.ent_telling.proofs.causes.write_each_cause.Given as goal

abbrev pub invariant-loop-cause : goal.invariant-loop-cause
invariant-loop-cause l = l.out ++ items_tokens_of (map cause_data (drop l.cause-index l.causes)) ≡ l.fn.out ++ items_tokens_of (map cause_data l.causes)
