-- Arguments of one `and` (appendix A.3.5) that no value meets together.
use Rattle.std.specs.Prelude.{◌≡◌, ℕ, suc, List, [], ◌∷◌, ◌++◌, Bool, true, false, not, ◌&&◌, ◌||◌, ◌==◌, Option, Some, None, option_map, if◌then◌else◌, codes, take}
use Rattle.std.specs.declared.cmp.Ordering.{Ordering}
use Rattle.std.specs.declared.cmp.Ordering.TheVariants as order
use Rattle.ent_functions.specs.Orders.{stands}
use Rattle.ent_functions.specs.declared.function.Comparison.{Comparison}
use Rattle.ent_functions.specs.declared.function.Comparison.TheVariants as comparison
use Rattle.ent_functions.specs.declared.function.Ordered.{Ordered}
use Rattle.ent_functions.specs.declared.function.Function.{Function}
use Rattle.ent_functions.specs.declared.function.Function.TheVariants as function
use Rattle.lint_meaning.specs.Copies.{same_expression}
use Rattle.lint_meaning.specs.Places.{Told, member, told_if, told_of}
use Rattle.lint_meaning.specs.declared.bounds.Limit.{Limit}
use Rattle.lint_meaning.specs.declared.bounds.Limit.TheVariants as limit
use Rattle.lint_meaning.specs.declared.warning.Meaning.TheVariants as meaning
use Rattle.ent_policy.specs.declared.expression.Expression.{Expression}
use Rattle.ent_policy.specs.declared.expression.Expression.TheOpen.{Expression-F}
use Rattle.ent_policy.specs.declared.expression.Expression.TheViews.{out-Expression}
use Rattle.ent_values.specs.Calendar.{TimeOfDay}
use Rattle.ent_values.specs.Order.{value_cmp}
use Rattle.ent_values.specs.Types.{datatype_of}
use Rattle.ent_values.specs.declared.value.Value.{Value}
use Rattle.ent_values.specs.declared.value.Value.TheVariants as values

-- ---- what an argument asks of a value

-- it asks where the value of a term lies to a literal
pub record Bound : Type 0 where
  pub term : Expression
  pub limit : Limit
  pub value : Value

-- how a function asks where its first argument lies to its second (appendix A.3.1, A.3.6 and A.3.8)
abbrev pub limit_of : Function → Option Limit
limit_of (function.Equal e) = Some limit.Exactly
limit_of (function.Compare comparison.GreaterThan o) = Some limit.Above
limit_of (function.Compare comparison.GreaterThanOrEqual o) = Some limit.From
limit_of (function.Compare comparison.LessThan o) = Some limit.Below
limit_of (function.Compare comparison.LessThanOrEqual o) = Some limit.UpTo
limit_of _ = None

-- how it asks where its second argument lies to its first
abbrev pub turned : Limit → Limit
turned limit.Exactly = limit.Exactly
turned limit.Above = limit.Below
turned limit.From = limit.UpTo
turned limit.Below = limit.Above
turned limit.UpTo = limit.From

-- the bound that a literal and another argument make, the literal second or first
abbrev pub bound_by : Limit → Expression → Expression → Expression-F Expression → Expression-F Expression → Option Bound
bound_by l first second shape (Expression-F.Value v) = Some (record { term = first; limit = l; value = v })
bound_by l first second (Expression-F.Value v) shape = Some (record { term = second; limit = turned l; value = v })
bound_by l first second _ _ = None

-- of two arguments
abbrev pub bound_between : Option Limit → List Expression → Option Bound
bound_between (Some l) (first ∷ second ∷ []) = bound_by l first second (out-Expression first) (out-Expression second)
bound_between _ _ = None

-- that of an application
abbrev pub bound_in : Expression-F Expression → Option Bound
bound_in (Expression-F.Apply f arguments) = bound_between (limit_of f) arguments
bound_in _ = None

abbrev pub bound_of : Expression → Option Bound
bound_of e = bound_in (out-Expression e)

-- ---- two of them

-- no value lies below it, above it; the literal itself meets it
abbrev pub is_floor : Limit → Bool
is_floor limit.Exactly = true
is_floor limit.Above = true
is_floor limit.From = true
is_floor _ = false

abbrev pub is_ceiling : Limit → Bool
is_ceiling limit.Exactly = true
is_ceiling limit.Below = true
is_ceiling limit.UpTo = true
is_ceiling _ = false

abbrev pub is_met : Limit → Bool
is_met limit.Exactly = true
is_met limit.From = true
is_met limit.UpTo = true
is_met _ = false

-- a floor that lies so to a ceiling leaves nothing between: it lies above it, or on it where the literal doesn't meet both
abbrev pub leaves_none : Bool → Ordering → Bool
leaves_none both order.Greater = true
leaves_none both order.Equal = not both
leaves_none both order.Less = false

-- nothing lies above a floor and below a ceiling
abbrev pub is_empty_between : Limit → Value → Limit → Value → Bool
is_empty_between a v b w = is_floor a && (is_ceiling b && leaves_none (is_met a && is_met b) (value_cmp v w))

-- no value meets both limits
abbrev pub is_empty : Limit → Value → Limit → Value → Bool
is_empty a v b w = is_empty_between a v b w || is_empty_between b w a v

-- two arguments ask the same term for what no value meets
abbrev pub are_apart : Option Bound → Option Bound → Bool
are_apart (Some a) (Some b) = is_empty a.limit a.value b.limit b.value && same_expression a.term b.term
are_apart _ _ = false

abbrev pub excludes : Expression → Expression → Bool
excludes a b = are_apart (bound_of a) (bound_of b)

-- ---- a bound by itself

-- nothing comes before a time in a day
abbrev pub is_midnight : TimeOfDay → Bool
is_midnight t = t.hour == 0 && (t.minute == 0 && t.second == 0)

-- a text has no byte
abbrev pub is_empty_text : List ℕ → Bool
is_empty_text [] = true
is_empty_text (b ∷ bs) = false

-- no value of its type is less: 00:00:00, and the empty string
abbrev pub is_least : Value → Bool
is_least (values.Time t) = is_midnight t
is_least (values.Text bytes) = is_empty_text bytes
is_least _ = false

-- no value lies there: less is asked for than the least
abbrev pub is_nowhere : Limit → Value → Bool
is_nowhere limit.Below literal = is_least literal
is_nowhere _ literal = false

abbrev pub is_unmet : Option Bound → Bool
is_unmet None = false
is_unmet (Some b) = is_nowhere b.limit b.value

-- so of a function with the literal first, as in a match (section 7.6)
abbrev pub is_unmet_from : Option Limit → Value → Bool
is_unmet_from None literal = false
is_unmet_from (Some l) literal = is_nowhere (turned l) literal

-- ---- those of one `and`

-- the number of the first of some arguments that excludes another, where the first of them has this number
abbrev pub first_excluding : ℕ → List Expression → Expression → Option ℕ
first_excluding n [] e = None
first_excluding n (other ∷ others) e = if excludes other e then Some n else first_excluding (suc n) others e

-- what is told of the arguments of an `and`, of which those from this number on are given last: of each the first before it that excludes it
abbrev pub apart_from : List Expression → ℕ → List Expression → Told
apart_from all n [] pointer = []
apart_from all n (e ∷ others) pointer =
    told_of meaning.Apart (first_excluding 0 (take n all) e) (member pointer (codes "Apply/Arguments") n) ++ apart_from all (suc n) others pointer

-- what is told of the arguments of a function: of any but `and` nothing
abbrev pub told_of_arguments : Function → List Expression → Told
told_of_arguments function.And arguments pointer = apart_from arguments 0 arguments pointer
told_of_arguments _ arguments pointer = []

-- what is told of an application
abbrev pub application_told : Function → List Expression → Told
application_told f arguments pointer = told_if (is_unmet (bound_between (limit_of f) arguments)) meaning.Least pointer ++ told_of_arguments f arguments pointer

-- ---- what a bound says of a value

-- a value that lies so to the literal meets the limit
abbrev pub lies : Limit → Ordering → Bool
lies limit.Exactly order.Equal = true
lies limit.Above order.Greater = true
lies limit.From order.Equal = true
lies limit.From order.Greater = true
lies limit.Below order.Less = true
lies limit.UpTo order.Less = true
lies limit.UpTo order.Equal = true
lies _ _ = false

abbrev pub meets : Limit → Value → Value → Bool
meets l literal value = lies l (value_cmp value literal)

-- no value meets two limits that are told
abbrev pub NoValueMeetsBoth : Type 0
NoValueMeetsBoth = (a b : Limit) (v w value : Value) → is_empty a v b w ≡ true → (meets a v value && meets b w value) ≡ false

-- a comparison is true of a value where the value meets the limit (appendix A.3.6 and A.3.8)
abbrev pub ComparisonsAskForLimits : Type 0
ComparisonsAskForLimits =
    (c : Comparison) (o : Ordered) (lying : Ordering) → option_map (λ l. lies l lying) (limit_of (function.Compare c o)) ≡ Some (stands c lying)

-- no value of its type meets a limit that is told alone
abbrev pub NoValueLiesBelowTheLeast : Type 0
NoValueLiesBelowTheLeast = (l : Limit) (literal value : Value) → datatype_of value ≡ datatype_of literal → is_nowhere l literal ≡ true → meets l literal value ≡ false

-- with the literal first, where the value meets the limit turned
abbrev pub TurnedLimitsAskTheSame : Type 0
TurnedLimitsAskTheSame = (l : Limit) (literal value : Value) → meets l value literal ≡ meets (turned l) literal value
