use Rattle.std.proofs.Common.{◌++◌, filter_map}
use Rattle.ent_json.specs.proofs_only.Text.{items_tokens_of}
use Rattle.ent_profile.specs.Response.{included}
use Rattle.ent_profile.proofs.TokenLemmas.{kept_on}
use Rattle.ent_profile.proofs.included_text.write_attributes.Goals as goal

pub loop-attribute-preserved : goal.loop-attribute-preserved
loop-attribute-preserved c =
    rw (c.in_ok-write_included.ensures) (kept_on included c.loop-attribute.out c.args.attributes.now c.loop-attribute.attribute-index c.attribute-item.result (c.args.out.now ++ items_tokens_of (filter_map included c.args.attributes.now)) c.loop-attribute-test.true c.attribute-item.is c.loop-attribute.invariant)
