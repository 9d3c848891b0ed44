use Rattle.lint_places.proofs.Gathered.{ids_more}
use Rattle.lint_places.proofs.suspects.ids_of.Goals as goal

pub loop-definition-preserved : goal.loop-definition-preserved
loop-definition-preserved c =
    ids_more c.args.definitions.now c.loop-definition.definition-index c.definition-item.result c.loop-definition.ids c.insert.new.self c.as_str.result
    c.loop-definition-test.true c.definition-item.is c.as_str.ensures c.loop-definition.invariant c.in_ok-insert.ensures.updates
