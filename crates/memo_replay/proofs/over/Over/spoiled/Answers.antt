use Rattle.std.proofs.Common.{◌≡◌, ◌∙◌, ap, subst}
use Rattle.ent_request.specs.Plain.{indeterminate}
use Rattle.ent_walk.specs.Rule.{decided}
use Rattle.ent_walk.specs.declared.evaluated.Truth.TheVariants as truth
use Rattle.ent_walk.specs.proofs_only.Gathered.{Gathers, Tells}
use Rattle.memo_replay.proofs.over.Over.spoiled.Goals as goal

pub returns : goal.returns
returns g c = λ here.
    let old = c.args.gathering.now in
    let same : c.indeterminate-answer.result ≡ decided here c.args.rule.now (truth.Indeterminate c.args.status) =
    c.indeterminate-answer.ensures ∙ ap (λ kind. indeterminate kind c.args.status) c.indeterminate_of-kind.ensures in (
      subst (Gathers old c.take.new.self) same c.in_ok-take.ensures.gathered,
      subst (λ a. Tells old a c.in_ok-take.field-0) same c.in_ok-take.ensures.progress,
    )
