use Rattle.std.proofs.Common.{refl, sym, ◌∙◌}
use Rattle.lint_declared.specs.Undeclared.{spot}
use Rattle.lint_declared.proofs.Walks.{undeclared_by}
use Rattle.lint_declared.proofs.walk.undeclared_here.Goals as goal

pub returns : goal.returns
returns g c = λ scope.
    let given = c.args.attributes.now in
    let s = spot c.args.pointer.now c.args.part scope (g.J.JsonTree.content c.args.json.now) in (
      refl,
      record {
        is_there = sym c.in_ok-pointer.ensures;
        is_asked = sym c.in_ok-asked.ensures;
        undeclared = undeclared_by given s c.in_ok-asked.asked (sym c.is_designator.ensures ∙ c.if-not-is_designator.false) c.in_ok-asked.ensures (sym c.finds_one.ensures ∙ c.if-finds_one.false);
      },
    )
