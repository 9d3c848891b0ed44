use Rattle.std.proofs.Common.{◌∙◌}
use Rattle.ent_profile.specs.Response.{response}
use Rattle.ent_profile.proofs.TextLemmas.{written}
use Rattle.ent_profile.proofs.response_text.write_response_text.Goals as goal

pub returns : goal.returns
returns c = c.into_string.ensures ∙ written (response c.args.answer.now c.args.request.now) _ _ c.in_ok-out.ensures c.in_ok-write_whole.ensures
