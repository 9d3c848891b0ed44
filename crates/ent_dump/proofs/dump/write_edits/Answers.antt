use Rattle.std.proofs.Common.{◌++◌, ap, ◌∙◌}
use Rattle.ent_request.specs.Held.{Held}
use Rattle.ent_table.specs.declared.edit.List.TheVariants as which
use Rattle.law_rebuild.specs.Rebuilding.{name_edits}
use Rattle.ent_dump.specs.proofs_only.Walk.{held_edits, line_tokens}
use Rattle.ent_dump.proofs.Walks.{lines_end, rebuilding_is}
use Rattle.ent_dump.proofs.dump.write_edits.Goals as goal

pub returns : goal.returns
returns g c =
    let state = c.args.review.now.state in
    let people = name_edits which.People state.names.people in
    let actions = name_edits which.Actions state.names.actions in
    let resources = name_edits which.Resources state.names.resources in
    rw (rebuilding_is state)
    (lines_end _ _ _ _ (held_edits state.held) _ (c.in_ok-write_held.ensures
    ∙ ap (λ (h : Held). c.args.out.now ++ line_tokens (held_edits h)) c.pdp.ensures.held)
    (lines_end _ _ _ _ people _ (rw c.names.ensures at c.in_ok-write_names.ensures)
    (lines_end _ _ _ _ actions resources (rw c.names-2.ensures at c.in_ok-write_names-2.ensures) (rw c.names-3.ensures at c.write_names-3.ensures))))
