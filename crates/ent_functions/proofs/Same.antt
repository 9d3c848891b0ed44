-- `==` decides whether functions, types of arguments and arguments are equal.
use denote.Enum.Bare.{sameb, same_true}
use Rattle.std.proofs.Common.{◌≡◌}
use Rattle.std.specs.Bool.{Decides}
use Rattle.ent_functions.specs.Same.{same_argument, same_function}
use Rattle.ent_functions.specs.Types.{same_type}
use Rattle.ent_functions.specs.contracts.arg.Arg as argument
use Rattle.ent_functions.specs.contracts.arg.ArgEq.TheImpl.Laws as arguments
use Rattle.ent_functions.specs.contracts.function.Comparison as comparison
use Rattle.ent_functions.specs.contracts.function.Element as element
use Rattle.ent_functions.specs.contracts.function.Function as function
use Rattle.ent_functions.specs.contracts.function.FunctionEq.TheImpl.Laws as functions
use Rattle.ent_functions.specs.contracts.function.Ordered as ordered
use Rattle.ent_functions.specs.contracts.types.ArgType as type
use Rattle.ent_functions.specs.contracts.types.ArgTypeEq.TheImpl.Laws as types
use Rattle.ent_functions.specs.declared.arg.Arg.{Arg}
use Rattle.ent_functions.specs.declared.function.Element.{Element}
use Rattle.ent_functions.specs.declared.function.Function.{Function}
use Rattle.ent_functions.specs.declared.types.ArgType.{ArgType}
use Rattle.ent_values.proofs.Telling.{Tells, decided, decides, enum, last, more}
use Rattle.ent_values.proofs.Values as values

one-tells : (v : Element × Unit {0}) → Tells (λ a b. sameb element.the_type a.0 b.0) v
one-tells = last (same_true element.the_type tt)

pub function-tells : (f : Function) → Tells same_function f
function-tells =
    enum function.enum _
    (one-tells, (more (same_true comparison.the_type tt) (last (same_true ordered.the_type tt)), (one-tells, (one-tells, (one-tells, (one-tells, (one-tells, (one-tells, (one-tells, (one-tells, (one-tells, tt)))))))))))

type-tells : (t : ArgType) → Tells same_type t
type-tells = enum type.enum _ (last (decided values.same_type-Decides), (last (decided values.same_type-Decides), (last function-tells, tt)))

argument-tells : (a : Arg) → Tells same_argument a
argument-tells = enum argument.enum _ (last (decided values.same_value-Decides), (last (decided values.same_bag-Decides), (last function-tells, tt)))

pub same_function-Decides : (a b : Function) → Decides (same_function a b) (a ≡ b)
same_function-Decides = decides functions.laws-law function-tells

pub same_type-Decides : (a b : ArgType) → Decides (same_type a b) (a ≡ b)
same_type-Decides = decides types.laws-law type-tells

pub same_argument-Decides : (a b : Arg) → Decides (same_argument a b) (a ≡ b)
same_argument-Decides = decides arguments.laws-law argument-tells
