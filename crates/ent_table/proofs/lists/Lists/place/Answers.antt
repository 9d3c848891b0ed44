use Rattle.std.proofs.Common.{◌≡◌, true, ap, sym, ◌∙◌, length, ◌+◌, ◌*◌}
use Rattle.std.specs.Prelude.{slice_get, string_bytes, ◌&&◌}
use Rattle.std.proofs.lemmas.List.{length-map}
use Rattle.ent_table.specs.Names.{all_triples, has_name}
use Rattle.ent_table.proofs.Places.{triple_at}
use Rattle.ent_table.proofs.Taken.{has_at}
use Rattle.ent_table.proofs.lists.Lists.place.Goals as goal

pub returns : goal.returns
returns c =
    let inside = c.self.inside in
    let i = c.in_ok-row.row in
    let j = c.in_ok-column.column in
    let k = c.in_ok-depth.depth in
    let person : has_name c.args.person.now inside.people ≡ true = has_at c.args.person.now inside.people i c.in_ok-row.ensures.at in
    let action : has_name c.args.action.now inside.actions ≡ true = has_at c.args.action.now inside.actions j c.in_ok-column.ensures.at in
    let resource : has_name c.args.resource.now inside.resources ≡ true = has_at c.args.resource.now inside.resources k c.in_ok-depth.ensures.at in
    let columns : length c.as_slice-actions.result.now ≡ length inside.actions = sym (length-map c.as_slice-actions.result.now string_bytes) ∙ ap length c.as_slice-actions.ensures.names in
    let depths : length c.as_slice-resources.result.now ≡ length inside.resources = sym (length-map c.as_slice-resources.result.now string_bytes) ∙ ap length c.as_slice-resources.ensures.names in
    rw (← c.self.view_is) (
      (λ t. person t && (action t && resource t)),
      (λ t. slice_get (all_triples inside.people inside.actions inside.resources) ((i * columns t + j) * depths t + k))
          ∙ triple_at inside.people inside.actions inside.resources i j k c.args.person.now c.args.action.now c.args.resource.now
          c.in_ok-row.ensures.at c.in_ok-column.ensures.at c.in_ok-depth.ensures.at,
    )
