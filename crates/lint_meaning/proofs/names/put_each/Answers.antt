use Rattle.lint_meaning.proofs.Named.{all_added, next_added, none_added}
use Rattle.lint_meaning.proofs.names.put_each.Goals as goal

pub loop-part-init : goal.loop-part-init
loop-part-init g c = none_added c.args.names.now

pub loop-part-preserved : goal.loop-part-preserved
loop-part-preserved g c =
    next_added g.N.Naming.named c.args.parts.now c.loop-part.part-index c.args.names.now c.part-item.result c.loop-part.names c.put.new.names c.loop-part-test.true c.part-item.is c.in_ok-put.ensures c.loop-part.invariant

pub returns : goal.returns
returns g c = all_added g.N.Naming.named c.args.parts.now c.loop-part.part-index c.args.names.now c.loop-part.names (c.loop-part-test.false) c.loop-part.invariant
