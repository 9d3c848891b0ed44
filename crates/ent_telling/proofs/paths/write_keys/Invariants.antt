use Rattle.std.proofs.Common.{◌≡◌, ◌++◌, drop, map}
use Rattle.ent_json.specs.proofs_only.Text.{items_tokens_of}
use Rattle.ent_telling.specs.Paths.{key_data}
use Rattle.ent_telling.proofs.paths.write_keys.Given as goal

abbrev pub invariant-loop-key : goal.invariant-loop-key
invariant-loop-key l = l.out ++ items_tokens_of (map key_data (drop l.key-index l.keys)) ≡ l.fn.out ++ items_tokens_of (map key_data l.keys)
