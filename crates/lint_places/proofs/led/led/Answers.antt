use Rattle.std.proofs.Common.{◌≡◌, ◌∙◌, ◌-◌, length, map, sym}
use Rattle.std.specs.List.{zip}
use Rattle.ent_polform.specs.Form.{definition_of}
use Rattle.lint_places.specs.Led.{further, readable}
use Rattle.lint_places.specs.proofs_only.Rows.{is_reached_by}
use Rattle.lint_places.proofs.LedLemmas.{further_is, one_more, same_flags, stays}
use Rattle.lint_places.proofs.led.led.Goals as goal

pub returns-then-eq : goal.returns-then-eq
returns-then-eq g c =
    let vs = map (λ d. readable (definition_of d)) (map g.J.JsonTree.content c.args.definitions.now) in
    let step : c.in_ok-next.next.items ≡ further vs c.loop.all.items =
    c.in_ok-next.ensures ∙ (λ i. map (is_reached_by (c.as_slice.ensures.value i)) (zip (c.as_slice.ensures.value i) c.args.rows.now)) ∙ further_is c.loop.all.items vs c.args.rows.now c.requires in
    let same = same_flags _ _ (sym c.eq.ensures ∙ c.if-eq.true) in
    sym (stays vs c.loop.all.items (sym step ∙ same) (length c.args.definitions.now - c.loop.counter)) ∙ c.loop.invariant

pub loop-preserved : goal.loop-preserved
loop-preserved g c =
    let vs = map (λ d. readable (definition_of d)) (map g.J.JsonTree.content c.args.definitions.now) in
    let step : c.in_ok-next.next.items ≡ further vs c.loop.all.items =
    c.in_ok-next.ensures ∙ (λ i. map (is_reached_by (c.as_slice.ensures.value i)) (zip (c.as_slice.ensures.value i) c.args.rows.now)) ∙ further_is c.loop.all.items vs c.args.rows.now c.requires in
    one_more vs c.loop.all.items c.in_ok-next.next.items _ _ c.loop.counter c.loop-test.true step c.loop.invariant
