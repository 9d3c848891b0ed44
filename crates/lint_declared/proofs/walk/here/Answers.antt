use Rattle.std.proofs.Common.{subst}
use Rattle.std.proofs.lemmas.Result.{IfOk-weaker}
use Rattle.lint_declared.specs.Undeclared.{spot}
use Rattle.lint_declared.specs.proofs_only.Found.{FindsDesignator}
use Rattle.lint_declared.proofs.Walks.{designator_here, literal_here}
use Rattle.lint_declared.proofs.walk.here.Goals as goal

pub returns-in-Some : goal.returns-in-Some
returns-in-Some g c = λ scope.
    let given = c.args.attributes.now in
    let s = spot c.args.pointer.now c.args.part scope (g.J.JsonTree.content c.args.json.now) in
    designator_here given c.in-Some.found s (subst (λ o. FindsDesignator given s o) c.in-Some.is (c.in_ok-found.ensures scope))

pub returns : goal.returns
returns g c =
    let given = c.args.attributes.now in
    IfOk-weaker c.stray_in.result _ _
    (λ o h scope.
    let s = spot c.args.pointer.now c.args.part scope (g.J.JsonTree.content c.args.json.now) in
    literal_here given o s (subst (λ p. FindsDesignator given s p) c.in_default.is (c.in_ok-found.ensures scope)) h) c.stray_in.ensures
