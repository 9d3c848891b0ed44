use Rattle.std.proofs.Common.{◌∙◌, Option, List, Bor, true, ap, map, option_map, sym}
use Rattle.std.specs.Option.{option_map_or}
use Rattle.serde_json.specs.View.{items_of}
use Rattle.ent_command.specs.Wanted.{has_decision}
use Rattle.ent_command.proofs.SelectingLemmas.{has_decision_in}
use Rattle.ent_line.proofs.selecting.has_decision.Goals as goal

pub returns-in-Some : goal.returns-in-Some
returns-in-Some g c =
    let content = g.J.JsonTree.content in
    c.is_named.ensures ∙ has_decision_in content c.args.decision c.in-Some.values.now
    ∙ ap (λ (o : Option (Bor (List g.row.J.Denot))). option_map_or (has_decision c.args.decision) (option_map (λ ds. items_of (map content ds.now)) o) true)
    (sym c.in-Some.is)
