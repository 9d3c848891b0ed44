-- Whether two functions, types of arguments or arguments are the same, and that this test decides it.
use Rattle.std.specs.Prelude.{◌≡◌, Bool}
use Rattle.std.specs.Bool.{Decides}
use Rattle.ent_functions.specs.Types.{same_type}
use Rattle.ent_functions.specs.contracts.arg.ArgPartialEq.TheImpl as arguments
use Rattle.ent_functions.specs.contracts.function.FunctionPartialEq.TheImpl as functions
use Rattle.ent_functions.specs.declared.arg.Arg.{Arg}
use Rattle.ent_functions.specs.declared.function.Function.{Function}
use Rattle.ent_functions.specs.declared.types.ArgType.{ArgType}

-- what `==` of two functions answers
abbrev pub same_function : Function → Function → Bool
same_function = (functions.ghosts).eq

-- what `==` of two arguments answers
abbrev pub same_argument : Arg → Arg → Bool
same_argument = (arguments.ghosts).eq

-- it answers whether they are equal
abbrev pub SameFunctionsAreEqual : Type 0
SameFunctionsAreEqual = (a b : Function) → Decides (same_function a b) (a ≡ b)

-- that of two types of arguments does
abbrev pub SameTypesAreEqual : Type 0
SameTypesAreEqual = (a b : ArgType) → Decides (same_type a b) (a ≡ b)

-- that of two arguments does
abbrev pub SameArgumentsAreEqual : Type 0
SameArgumentsAreEqual = (a b : Arg) → Decides (same_argument a b) (a ≡ b)
