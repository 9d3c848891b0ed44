use Rattle.std.proofs.Common.{◌≡◌, map, drop}
use Rattle.std.specs.List.{list_all}
use Rattle.lint_meaning.specs.Fixed.{is_fixed}
use Rattle.lint_meaning.proofs.fixed.+fixed.Given as goal

abbrev pub invariant-are_fixed-loop-expression : goal.invariant-are_fixed-loop-expression
invariant-are_fixed-loop-expression l =
    list_all (λ fixed. fixed) (map is_fixed (drop l.expression-index l.expressions)) ≡ list_all (λ fixed. fixed) (map is_fixed l.expressions)
