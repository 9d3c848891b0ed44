-- Functions of higher order (appendix A.3.12).
use Rattle.std.specs.Prelude.{List, [], map, flat_map}
use Rattle.ent_values.specs.declared.value.Value.{Value}
use Rattle.ent_functions.specs.declared.arg.Arg.{Arg}
use Rattle.ent_functions.specs.declared.arg.Arg.TheVariants.{One, Many}

-- the values of a bag among the arguments
abbrev pub bag_values_in : Arg → List Value
bag_values_in (Many bag) = bag.values
bag_values_in _ = []

-- the values of the one bag among the arguments
abbrev pub bag_values : List Arg → List Value
bag_values arguments = flat_map bag_values_in arguments

-- an argument, and a value in its place if it is a bag
abbrev pub in_place_of_bag : Value → Arg → Arg
in_place_of_bag value (Many bag) = One value
in_place_of_bag value argument = argument

-- the arguments with a value in the bag's place
abbrev pub with_value : Value → List Arg → List Arg
with_value value arguments = map (in_place_of_bag value) arguments
