use Rattle.std.proofs.Common.{◌∙◌, map}
use Rattle.serde_json.specs.Data as json
use Rattle.serde_json.specs.View.{items_of, view}
use Rattle.std.proofs.lemmas.Result.{IfOk-weaker}
use Rattle.ent_profile.specs.Response.{given_written}
use Rattle.ent_profile.proofs.FittingLemmas.{given_is}
use Rattle.ent_profile.proofs.TextLemmas.{written}
use Rattle.ent_profile.proofs.given.write_given.Goals as goal

pub returns : goal.returns
returns c =
    IfOk-weaker c.read_again.result _ _
    (λ v h. given_is c.args.given.now c.given_are_real.ensures c.as_str.result.now
    (c.as_str.ensures.value ∙ c.into_string-text.ensures ∙ written (json.array (items_of (map given_written c.args.given.now))) _ _ c.in_ok-out.ensures c.in_ok-write_given_text.ensures) (view v) h) c.read_again.ensures
