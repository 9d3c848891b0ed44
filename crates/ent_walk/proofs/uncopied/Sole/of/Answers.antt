use Rattle.std.proofs.Common.{◌∙◌}
use Rattle.std.proofs.lemmas.Option.{IfSome_then}
use Rattle.ent_walk.proofs.Literals.{application-part}
use Rattle.ent_walk.proofs.uncopied.Sole.of.Goals as goal

pub returns-in-Apply : goal.returns-in-Apply
returns-in-Apply c = IfSome_then c.of_only.result c.of_only.ensures (λ s is looks definitions references.
    application-part looks c.args.request.now definitions references c.args.expression.now c.in-Apply.function c.in-Apply.arguments c.as_slice.result.now c.in-Apply.is c.as_slice.ensures
    ∙ is looks definitions references)
