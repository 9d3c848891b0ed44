use Rattle.std.proofs.Common.{◌<◌, ap, length, refl, subst, sym, ◌∙◌}
use Rattle.ent_finder.proofs.BlockRows.{halved, set_alike}
use Rattle.ent_finder.specs.Blocks.{rows_in}
use Rattle.ent_finder.proofs.blocks.halve.Goals as goal

pub returns-in_err-rows : goal.returns-in_err-rows
returns-in_err-rows c =
    let within = subst (λ bs. c.args.number < length bs) (sym c.reserve.ensures.items) c.requires in
    set_alike c.reserve.new.self.items c.args.number c.index_mut.result.now _ within c.index_mut.ensures.value (rw c.in_err-rows.ensures.err refl) ∙ ap rows_in c.reserve.ensures.items

pub returns : goal.returns
returns c =
    let within = subst (λ bs. c.args.number < length bs) (sym c.reserve.ensures.items) c.requires in
    ap rows_in c.in_ok-insert.ensures.items
    ∙ halved _ _ _ c.reserve.new.self.items c.args.number c.index_mut.result.now within c.index_mut.ensures.value c.in_ok-rows.ensures.items c.in_ok-rows.ensures.tail
    ∙ ap rows_in c.reserve.ensures.items
