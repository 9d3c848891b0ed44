use Rattle.std.proofs.Common.{◌≡◌, true, sym, arith}
use Rattle.lint_places.specs.Views.{scope_of}
use Rattle.lint_places.proofs.Lightly.{in_place}
use Rattle.lint_places.proofs.faulty.has_fault.Goals as goal

pub returns-in_ok-told-in_default : goal.returns-in_ok-told-in_default
returns-in_ok-told-in_default g c =
    let up : c.args.scope.now.clear ≡ true = grind (arith, c.if-not-scope.false) in
    rw (c.is_fault.ensures, c.in_ok-told-in_default.ensures, c.in_ok-light-in_default.ensures)
    (sym (in_place c.args.fault (scope_of g.J.JsonTree.content c.args.scope.now) (c.requires up) c.args.part (g.J.JsonTree.content c.args.json.now) c.in_default.not-Definition))
