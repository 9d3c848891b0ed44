use Rattle.lint_declared.proofs.Names.{by_order}
use Rattle.lint_declared.proofs.listed.Listed.has.Goals as goal

pub returns : goal.returns
returns c =
    let found = c.contains.ensures in
    let same = by_order c.args.name.now c.self.inside.names.keys in
    let view = c.self.view_is in
    cc
