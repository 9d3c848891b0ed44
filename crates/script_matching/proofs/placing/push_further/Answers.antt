use Rattle.std.proofs.Common.{◌∷◌, ◌++◌, ◌∙◌, [], ap, map, sym}
use Rattle.serde_json.specs.View.{view}
use Rattle.std.proofs.lemmas.Result.{on_ok_weaker}
use Rattle.script_matching.specs.Told.{needless}
use Rattle.script_matching.proofs.Lists.{needless_past}
use Rattle.script_matching.proofs.placing.push_further.Goals as goal

pub returns-then-count-items : goal.returns-then-count-items
returns-then-count-items c =
    let so_far = map (λ v. v.items) c.args.told.now.items in
    let item = c.index-items-count.result in
    on_ok_weaker c.tell_needless.result
    (λ told. told ∙ ap (λ place. so_far ++ needless place (view item) ∷ []) (c.as_slice.ensures.value ∙ c.in_ok-inner.ensures)
    ∙ ap (λ rest. so_far ++ rest)
    (sym (needless_past c.args.place.now c.args.items.now c.args.count item c.if-count-items.true c.index-items-count.is))) c.tell_needless.ensures
