use Rattle.std.proofs.lemmas.Result.{IfOk-weaker}
use Rattle.std.proofs.Common.{◌≡◌, true, rules, ◌∙◌}
use Rattle.ent_values.specs.declared.datatype.DataType.TheVariants as types
use Rattle.ent_request.specs.Sources.{asks_for}
use Rattle.ent_request.specs.Uris as uris
use Rattle.ent_request.proofs.Sourced.{dated}
use Rattle.ent_request.proofs.sources.source.Goals as goal

pub returns-then-asks_for : goal.returns-then-asks_for
returns-then-asks_for g c =
    let asks : asks_for uris.current_date types.Date c.args.designator.now ≡ true = search rules in
    IfOk-weaker c.dates.result _ _ (λ b is. is ∙ dated (g.L.LookUps.looks c.args.held.now) c.args.request.now c.args.designator.now asks) c.dates.ensures
