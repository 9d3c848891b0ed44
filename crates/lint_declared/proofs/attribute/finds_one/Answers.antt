use Rattle.std.proofs.Common.{rules, tests}
use Rattle.std.proofs.lemmas.Iterator.{YieldsList-from_slice}
use Rattle.std.proofs.lemmas.Iterator.Search.{any_from_yields_List}
use Rattle.lint_declared.specs.Asked.{finds}
use Rattle.lint_declared.proofs.attribute.finds_one.Goals as goal

pub returns-in-Some : goal.returns-in-Some
returns-in-Some c =
    rw c.in-Some.is (any_from_yields_List (finds c.in-Some.wanted) _ _ c.any.result c.any.ensures.ran (YieldsList-from_slice c.args.attributes.now cc)
    (λ x b q k. search (rules, tests)))
