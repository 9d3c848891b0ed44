-- Which functions want memory.
use Rattle.std.proofs.Common.{◌≡◌, ℕ, ◌<◌, ◌+◌, Bool, true, false, List, [], ◌∷◌, map, length, get_or, take, drop, ap, sym, refl, ◌∙◌, subst, arith, length-append}
use Rattle.std.specs.Prelude.{Result, Ok, Err, IfErr, OnErr, cond, filter}
use Rattle.std.proofs.lemmas.List.{take-append-drop}
use Rattle.std.proofs.lemmas.List.Filters.{length-filter_more}
use Rattle.std.proofs.lemmas.List.Folds.{length-flat_map-take}
use Rattle.ent_values.specs.declared.value.Value.{Value}
use Rattle.ent_values.specs.Bags.{Contents}
use Rattle.ent_values.specs.Types.{is_textual}
use Rattle.ent_functions.specs.Applied.{allocates, first_order, sorts}
use Rattle.ent_functions.specs.Arguments.{Applies, HasAnswer, TakesMemory, type_of_arg, values_in, values_of}
use Rattle.ent_functions.specs.proofs_only.Reading.{Takes}
use Rattle.ent_functions.specs.Sets.{each_once}
use Rattle.ent_functions.specs.Types.{bag_of, element_type, first_order_type, value_of}
use Rattle.ent_functions.specs.declared.arg.Arg.{Arg}
use Rattle.ent_functions.specs.declared.arg.Arg.TheVariants.{Many}
use Rattle.ent_functions.specs.declared.arg.Fault.{Fault}
use Rattle.ent_functions.specs.declared.arg.Fault.TheVariants.{DivideByZero, Overflow, NotSingle, DateRange, Memory}
use Rattle.ent_functions.specs.declared.function.Element.{Element}
use Rattle.ent_functions.specs.declared.function.Function.{Function}
use Rattle.ent_functions.specs.declared.function.Function.TheVariants as functions
use Rattle.ent_functions.specs.declared.types.ArgType.TheVariants as types
use Rattle.ent_functions.proofs.Answered.{first_order_answered}
use Rattle.ent_functions.proofs.EachOnce.{filter_append}
use Rattle.ent_functions.proofs.Taking.{exactly_types}

-- the values of one argument are among those of all
pub filled : (arguments : List Arg) (i : ℕ) (argument : Arg) → i < length arguments → argument ≡ get_or arguments i argument
    → 0 < length (values_in argument) → 0 < length (values_of arguments)
filled arguments i argument below is some =
    let same : length (values_in argument) ≡ length (values_in (get_or arguments i argument)) = ap (λ a. length (values_in a)) is in
    omega (arith, length-flat_map-take values_in arguments i argument below, same, some)

-- a value is there once, if there is one
pub filled_once : (values : List Value) → 0 < length values → 0 < length (each_once values)
filled_once [] some = some
filled_once (value ∷ rest) some = omega arith

-- a value that passes a test is left by a filter
pub filled_filter : (p : Value → Bool) (values : List Value) (i : ℕ) (value : Value) → i < length values → value ≡ get_or values i value
    → p value ≡ true → 0 < length (filter p values)
filled_filter p values i value below is passes =
    let more = length-filter_more p values i value below in
    let held : ℕ = 1 in
    let one : cond (p (get_or values i value)) 1 0 ≡ held = ap (λ b. cond b 1 0) (ap p (sym is) ∙ passes) in
    let whole : length (filter p values) ≡ length (filter p (take (i + 1) values)) + length (filter p (drop (i + 1) values)) =
    ap (λ vs. length (filter p vs)) (sym (take-append-drop (i + 1) values))
    ∙ ap length (filter_append p (take (i + 1) values) (drop (i + 1) values))
    ∙ length-append (filter p (take (i + 1) values)) (filter p (drop (i + 1) values)) in
    omega (arith, more, one, whole)

pub refused : {A E : Type 0} (P : Type 0) (result : Result A E) → P → OnErr result P
refused P (Ok value) holds = tt
refused P (Err error) holds = holds

-- want of memory, where the result takes memory
pub wants : (defined answer : Result Arg Fault) → answer ≡ Err Memory → TakesMemory defined → Applies false defined answer
wants defined answer is takes = rw is takes

-- a function that takes memory may want it
pub may_want : (function : Function) (result : Result Arg Fault) → allocates function ≡ true → IfErr result (λ fault. fault ≡ Memory → allocates function ≡ true)
may_want function (Ok outcome) allocates = tt
may_want function (Err fault) allocates = λ memory. allocates

-- an answer is no want of memory
answer_has_memory : (X : Type 0) (result : Result Arg Fault) → HasAnswer result → IfErr result (λ fault. fault ≡ Memory → X)
answer_has_memory X (Ok outcome) has = tt
answer_has_memory X (Err fault) has = λ memory. absurd (let same : Err fault ≡ Err Memory = ap Err memory in subst HasAnswer same has)

applies_exact : (ordering : Bool) (defined : Result Arg Fault) → HasAnswer defined → Applies ordering defined defined
applies_exact ordering (Ok outcome) has = refl
applies_exact ordering (Err Memory) has = absurd has
applies_exact ordering (Err DivideByZero) has = refl
applies_exact ordering (Err Overflow) has = refl
applies_exact ordering (Err NotSingle) has = refl
applies_exact ordering (Err DateRange) has = refl

-- what a function comes to is an answer
pub exact_value : (function : Function) (arguments : List Arg) (result : Result Arg Fault) → Takes function arguments → result ≡ first_order function arguments → Applies (sorts function arguments) (first_order function arguments) result
exact_value function arguments result taken is = rw is (applies_exact (sorts function arguments) (first_order function arguments) (first_order_answered function arguments taken))

-- what a function comes to is no want of memory
pub exact : (X : Type 0) (function : Function) (arguments : List Arg) (result : Result Arg Fault) → Takes function arguments → result ≡ first_order function arguments → IfErr result (λ fault. fault ≡ Memory → X)
exact X function arguments result taken is =
    answer_has_memory X result (rw is (first_order_answered function arguments taken))

bag_type : (e : Element) (bag : Contents) (arguments : List Arg) → arguments ≡ Many bag ∷ [] → Takes (functions.OneAndOnly e) arguments → bag.datatype ≡ element_type e
unfolding first_order_type
bag_type e bag arguments is taken =
    let all = exactly_types (bag_of e ∷ []) (value_of e) (map type_of_arg arguments) refl taken in
    let same : types.Many bag.datatype ∷ [] ≡ types.Many (element_type e) ∷ [] = sym (ap (map type_of_arg) is) ∙ all in
    cc

weaker : (X Y : Type 0) (result : Result Arg Fault) → (X → Y) → IfErr result (λ fault. fault ≡ Memory → X) → IfErr result (λ fault. fault ≡ Memory → Y)
weaker X Y (Ok outcome) f holds = tt
weaker X Y (Err fault) f holds = λ memory. f (holds memory)

-- the only value of a bag wants memory where it is a text
pub only_value_wants : (e : Element) (bag : Contents) (arguments : List Arg) (result : Result Arg Fault) → arguments ≡ Many bag ∷ [] → Takes (functions.OneAndOnly e) arguments → IfErr result (λ fault. fault ≡ Memory → is_textual bag.datatype ≡ true) → IfErr result (λ fault. fault ≡ Memory → allocates (functions.OneAndOnly e) ≡ true)
only_value_wants e bag arguments result is taken holds =
    weaker _ _ result (λ textual. ap is_textual (sym (bag_type e bag arguments is taken)) ∙ textual) holds
