use Rattle.std.proofs.Common.{◌≡◌, ◌++◌, drop, filter_map}
use Rattle.ent_json.specs.proofs_only.Text.{items_tokens_of}
use Rattle.ent_profile.specs.Response.{included}
use Rattle.ent_profile.proofs.included_text.write_attributes.Given as goal

abbrev pub invariant-loop-attribute : goal.invariant-loop-attribute
invariant-loop-attribute l = l.out ++ items_tokens_of (filter_map included (drop l.attribute-index l.attributes)) ≡ l.fn.out ++ items_tokens_of (filter_map included l.attributes)
