use Rattle.std.proofs.Common.{◌∙◌, subst}
use Rattle.std.specs.List.{AllByRecursion}
use Rattle.serde_json.specs.View.{view}
use Rattle.std.proofs.lemmas.Result.{IfOk-weaker}
use Rattle.ent_profile.specs.proofs_only.Reals.{CategoryIsReal, GivenIsReal}
use Rattle.ent_profile.proofs.FittingLemmas.{AreReal, response_is}
use Rattle.ent_profile.proofs.response.write_response.Goals as goal

pub returns : goal.returns
returns c =
    let real : AreReal c.args.answer.now c.args.request.now = record {
      advice = subst (AllByRecursion GivenIsReal) c.as_slice.ensures c.given_are_real.ensures;
      obligations = subst (AllByRecursion GivenIsReal) c.as_slice-2.ensures c.given_are_real-2.ensures;
      categories = subst (AllByRecursion CategoryIsReal) c.as_slice-3.ensures c.categories_are_real.ensures;
    } in
    IfOk-weaker c.read_again.result _ _
    (λ v h. response_is c.args.answer.now c.args.request.now real c.as_str.result.now (c.as_str.ensures.value ∙ c.in_ok-text.ensures) (view v) h) c.read_again.ensures
