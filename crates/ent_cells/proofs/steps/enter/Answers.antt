use Rattle.ent_cells.proofs.Grouped.{joined_stays, others_renamed, others_stay, others_then, same_named}
use Rattle.ent_cells.proofs.steps.enter.Goals as goal

pub returns-in_err-enter-clause-others : goal.returns-in_err-enter-clause-others
returns-in_err-enter-clause-others c = others_renamed c.args.key c.args.groups.now c.enter.new.self c.enter.ensures.names c.enter.ensures.groups

pub returns-in-Ok-clause-others : goal.returns-in-Ok-clause-others
returns-in-Ok-clause-others c =
    let key = c.args.key in
    let g = c.args.groups.now in
    let named = c.enter.new.self in
    let joined = c.join.new.self in
    others_then key g named joined (others_renamed key g named c.enter.ensures.names c.enter.ensures.groups) (others_stay key named joined (joined_stays named joined c.join.ensures.groups c.join.ensures.names))

pub returns-in-Ok-clause-named : goal.returns-in-Ok-clause-named
returns-in-Ok-clause-named c =
    let who = c.args.who.now in
    same_named c.enter.new.self c.join.new.self c.join.ensures.names who.person who.action who.resource c.args.key c.in_ok-enter.ensures.named

pub returns-in-Err-clause-others : goal.returns-in-Err-clause-others
returns-in-Err-clause-others c =
    let key = c.args.key in
    let g = c.args.groups.now in
    let named = c.enter.new.self in
    let joined = c.join.new.self in
    let left = c.exit.new.self in
    others_then key g joined left
    (others_then key g named joined (others_renamed key g named c.enter.ensures.names c.enter.ensures.groups) (others_stay key named joined (joined_stays named joined c.join.ensures.groups c.join.ensures.names)))
    (others_renamed key joined left c.exit.ensures.names c.exit.ensures.groups)
