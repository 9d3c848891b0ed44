-- What each comparison asks of the order of two values (appendix A.3.6 and A.3.8).
use Rattle.std.specs.Prelude.{Bool, true, false}
use Rattle.std.specs.declared.cmp.Ordering.{Ordering}
use Rattle.std.specs.declared.cmp.Ordering.TheVariants.{Less, Greater}
use Rattle.ent_functions.specs.declared.function.Comparison.{Comparison}
use Rattle.ent_functions.specs.declared.function.Comparison.TheVariants.{GreaterThan, GreaterThanOrEqual, LessThan, LessThanOrEqual}

-- whether a first value that lies so to a second one is greater, less ..
abbrev pub stands : Comparison → Ordering → Bool
stands GreaterThan Greater = true
stands GreaterThan _ = false
stands GreaterThanOrEqual Less = false
stands GreaterThanOrEqual _ = true
stands LessThan Less = true
stands LessThan _ = false
stands LessThanOrEqual Greater = false
stands LessThanOrEqual _ = true
