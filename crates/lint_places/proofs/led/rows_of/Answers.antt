use Rattle.std.proofs.Common.{ap, ◌∙◌}
use Rattle.lint_places.specs.Led.{referring}
use Rattle.lint_places.specs.proofs_only.Rows.{by_noted}
use Rattle.lint_places.proofs.NotedLemmas.{found_by_noted, rows_more}
use Rattle.lint_places.proofs.led.rows_of.Goals as goal

pub loop-definition-preserved : goal.loop-definition-preserved
loop-definition-preserved c =
    let row = c.in_ok-referring.ensures ∙ ap (λ ids. by_noted ids c.definition-item.result) c.as_slice.ensures.value
    ∙ found_by_noted c.in_ok-noted.noted.items c.args.definitions.now c.in_ok-noted.ensures c.definition-item.result in
    rw c.in_ok-push.ensures.items (rows_more (referring c.args.definitions.now) c.loop-definition.rows.items c.in_ok-referring.field-0 c.args.definitions.now c.loop-definition.definition-index
    c.definition-item.result c.loop-definition-test.true c.definition-item.is c.loop-definition.invariant row)
