-- Bags and sets of values (appendix A.3.10 and A.3.11).
use Rattle.std.specs.Prelude.{Bool, not, ◌&&◌, List, [], ◌∷◌, Result, Ok, Err, filter}
use Rattle.std.specs.List.{list_any, list_all}
use Rattle.ent_values.specs.Same.{same_value}
use Rattle.ent_values.specs.declared.value.Value.{Value}
use Rattle.ent_functions.specs.declared.arg.Arg.{Arg}
use Rattle.ent_functions.specs.declared.arg.Arg.TheVariants.{One}
use Rattle.ent_functions.specs.declared.arg.Fault.{Fault}
use Rattle.ent_functions.specs.declared.arg.Fault.TheVariants.{NotSingle}

-- the only value of a bag, or NotSingle
abbrev pub only_value : List Value → Result Arg Fault
only_value (value ∷ []) = Ok (One value)
only_value _ = Err NotSingle

-- whether a value is among others
abbrev pub is_among : Value → List Value → Bool
is_among value others = list_any (λ other. same_value other value) others

-- each value once, where it first stands
abbrev pub each_once : List Value → List Value
each_once [] = []
each_once (value ∷ rest) = value ∷ filter (λ other. not (same_value other value)) (each_once rest)

-- the values of the first bag that are in the second, each once
abbrev pub in_both : List Value → List Value → List Value
in_both first second = each_once (filter (λ value. is_among value second) first)

-- whether some value of the first bag is in the second
abbrev pub have_common : List Value → List Value → Bool
have_common first second = list_any (λ value. is_among value second) first

-- whether each value of the first bag is in the second
abbrev pub is_subset : List Value → List Value → Bool
is_subset first second = list_all (λ value. is_among value second) first

-- whether each is a subset of the other
abbrev pub are_equal_sets : List Value → List Value → Bool
are_equal_sets first second = is_subset first second && is_subset second first
