use Rattle.std.proofs.Common.{map}
use Rattle.lint_places.proofs.Gathered.{using_is}
use Rattle.lint_places.proofs.suspects.with_undefined.Goals as goal

pub returns-then-branch : goal.returns-then-branch
returns-then-branch g c =
    using_is (map g.J.JsonTree.content c.args.definitions.now) c.in_ok-held.held c.in_ok-again.again c.in_ok-others.others c.in_ok-using_others.field-0.items c.in_ok-ids.ids
    c.as_slice.result.now c.as_slice-then-branch.result.now c.in_ok-held.ensures c.in_ok-again.ensures (c.in_ok-ends.ensures c.if-branch.true) c.as_slice.ensures c.in_ok-ids.ensures
    c.as_slice-then-branch.ensures c.in_ok-using_others.ensures
