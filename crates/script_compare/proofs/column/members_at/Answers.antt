use Rattle.std.proofs.Common.{◌∙◌, ap, map, sym, unwrap_or}
use Rattle.serde_json.specs.Data.{no_items}
use Rattle.serde_json.specs.View.{view}
use Rattle.script_compare.specs.Tables.{listed}
use Rattle.script_compare.proofs.Lists.{listed_items}
use Rattle.script_compare.proofs.column.members_at.Goals as goal

pub returns-in-Some : goal.returns-in-Some
returns-in-Some c = sym (listed_items (map view c.in-Some.members.now)) ∙ ap (λ o. listed (unwrap_or o no_items)) c.in-Some.ensures
