use Rattle.std.proofs.Common.{ap, sym, ◌∙◌, option_and_then}
use Rattle.ent_json.specs.Objects.{filled}
use Rattle.ent_json.proofs.ObjectLemmas.{filled-some}
use Rattle.ent_json.proofs.objects.filled_list_at.Goals as goal

pub returns-else-is_empty : goal.returns-else-is_empty
returns-else-is_empty g c = sym (ap (option_and_then filled) (sym c.in_ok-items.ensures) ∙ filled-some g.J.JsonTree.content c.in_ok-items.items.now c.if-is_empty.ensures)
