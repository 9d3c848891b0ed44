-- The type of an argument as a function sees it: a word of the code's own contracts.
use Rattle.std.specs.Prelude.{Bool, true, false}
use Rattle.ent_functions.specs.declared.types.ArgType.{ArgType}
use Rattle.ent_functions.specs.Types.{one_of}

-- the type of one argument, with a value in a bag's place if that is asked for
abbrev pub seen_type : Bool → ArgType → ArgType
seen_type true given = one_of given
seen_type false given = given
