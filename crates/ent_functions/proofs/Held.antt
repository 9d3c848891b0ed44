-- The types of the values that arguments hold.
use Rattle.std.proofs.Common.{◌≡◌, ℕ, ◌<◌, ◌+◌, length, take, get_or, append-nil, List, [], ◌∷◌, ◌++◌, map, ap, sym, subst, ◌∙◌}
use Rattle.std.specs.Prelude.{All}
use Rattle.std.proofs.lemmas.List.{take_more}
use Rattle.std.proofs.lemmas.Grind.{flat_map-append}
use Rattle.std.proofs.lemmas.List.Elements.{All-append, All-cons, All-head, All-nil, All-tail}
use Rattle.ent_values.specs.Bags.{AllOfType}
use Rattle.ent_values.specs.Types.{datatype_of}
use Rattle.ent_values.specs.declared.datatype.DataType.{DataType}
use Rattle.ent_functions.specs.Arguments.{type_of_arg, values_in, values_of}
use Rattle.ent_functions.specs.proofs_only.Reading.{HoldType, IsHeld, held_type}
use Rattle.ent_functions.specs.Sets.{each_once}
use Rattle.ent_functions.specs.declared.arg.Arg.{Arg}
use Rattle.ent_functions.specs.declared.arg.Arg.TheVariants.{One, Many, Fun}
use Rattle.ent_functions.specs.declared.types.ArgType.{ArgType}
use Rattle.ent_functions.specs.declared.types.ArgType.TheVariants as types
use Rattle.ent_functions.proofs.EachOnce.{each_once_types}

-- arguments that hold values of one type hold nothing else
pub held_values : (datatype : DataType) (arguments : List Arg) → HoldType datatype arguments → All IsHeld arguments → AllOfType datatype (values_of arguments)
held_values datatype [] hold held = All-nil (λ value. datatype_of value ≡ datatype)
held_values datatype (argument ∷ arguments) hold held =
    All-append (λ value. datatype_of value ≡ datatype) (values_in argument) (values_of arguments)
    (subst (λ (t : DataType). AllOfType t (values_in argument)) (All-head (λ a. held_type a ≡ datatype) argument arguments hold) (All-head IsHeld argument arguments held))
    (held_values datatype arguments (All-tail (λ a. held_type a ≡ datatype) argument arguments hold) (All-tail IsHeld argument arguments held))

pub held_once : (datatype : DataType) (arguments : List Arg) → HoldType datatype arguments → All IsHeld arguments → AllOfType datatype (each_once (values_of arguments))
held_once datatype arguments hold held = each_once_types datatype (values_of arguments) (held_values datatype arguments hold held)

one_type : (datatype : DataType) (argument : Arg) → type_of_arg argument ≡ types.One datatype → held_type argument ≡ datatype
one_type datatype (One value) is = cc
one_type datatype (Many bag) is = absurd (cc)
one_type datatype (Fun function) is = absurd (cc)

bag_type : (datatype : DataType) (argument : Arg) → type_of_arg argument ≡ types.Many datatype → held_type argument ≡ datatype
bag_type datatype (One value) is = absurd (cc)
bag_type datatype (Many bag) is = cc
bag_type datatype (Fun function) is = absurd (cc)

hold_by : (datatype : DataType) (type : ArgType) → ((argument : Arg) → type_of_arg argument ≡ type → held_type argument ≡ datatype)
    → (arguments : List Arg) → All (λ given. given ≡ type) (map type_of_arg arguments) → HoldType datatype arguments
hold_by datatype type by [] all = All-nil (λ a. held_type a ≡ datatype)
hold_by datatype type by (argument ∷ arguments) all =
    All-cons (λ a. held_type a ≡ datatype) argument arguments
    (by argument (All-head (λ given. given ≡ type) (type_of_arg argument) (map type_of_arg arguments) all))
    (hold_by datatype type by arguments (All-tail (λ given. given ≡ type) (type_of_arg argument) (map type_of_arg arguments) all))

-- arguments that are values of one type
pub values_hold : (datatype : DataType) (arguments : List Arg) → All (λ given. given ≡ types.One datatype) (map type_of_arg arguments) → HoldType datatype arguments
values_hold datatype arguments all = hold_by datatype (types.One datatype) (one_type datatype) arguments all

-- arguments that are bags of one type
pub bags_hold : (datatype : DataType) (arguments : List Arg) → All (λ given. given ≡ types.Many datatype) (map type_of_arg arguments) → HoldType datatype arguments
bags_hold datatype arguments all = hold_by datatype (types.Many datatype) (bag_type datatype) arguments all

-- the values that one argument more holds
pub values_more : (arguments : List Arg) (i : ℕ) (argument : Arg) → i < length arguments → argument ≡ get_or arguments i argument
    → values_of (take (i + 1) arguments) ≡ values_of (take i arguments) ++ values_in argument
values_more arguments i argument below at =
    ap values_of (take_more arguments i argument below ∙ ap (λ a. take i arguments ++ a ∷ []) (sym at))
    ∙ flat_map-append values_in (take i arguments) (argument ∷ [])
    ∙ ap (λ values. values_of (take i arguments) ++ values) (append-nil (values_in argument))

pub held_more : (arguments : List Arg) (i : ℕ) (argument : Arg) → i < length arguments → argument ≡ get_or arguments i argument
    → All IsHeld (take i arguments) → IsHeld argument → All IsHeld (take (i + 1) arguments)
held_more arguments i argument below at held one =
    subst (λ (xs : List Arg). All IsHeld xs) (sym (take_more arguments i argument below ∙ ap (λ a. take i arguments ++ a ∷ []) (sym at)))
    (All-append IsHeld (take i arguments) (argument ∷ []) held (All-cons IsHeld argument [] one (All-nil IsHeld)))
