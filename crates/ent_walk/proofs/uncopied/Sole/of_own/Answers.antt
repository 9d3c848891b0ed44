use Rattle.std.proofs.Common.{Some, refl, ◌∙◌, ap}
use Rattle.ent_request.specs.Own.{sole_value}
use Rattle.ent_walk.proofs.Alone.{sole_is}
use Rattle.ent_request.proofs.Apart.{own_of}
use Rattle.ent_walk.proofs.uncopied.Sole.of_own.Goals as goal

pub returns : goal.returns
returns c = (sole_is (Some c.in_ok-value.value) _ (c.in_ok-value.ensures ∙ ap sole_value (own_of c.of.result c.args.designator.now c.args.request.now c.of.ensures)), refl)
