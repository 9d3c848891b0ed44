-- What an expression comes to (sections 7.3.5 and 7.8, appendix A.3).
use Rattle.std.specs.Prelude.{ℕ, zero, suc, List, [], ◌∷◌, Bool, true, false, not, if◌then◌else◌, Option, Some, None, find, unwrap_or}
use Rattle.ent_values.specs.declared.value.Value.{Value}
use Rattle.ent_values.specs.declared.value.Value.TheVariants.{Boolean}
use Rattle.ent_functions.specs.declared.arg.Arg.{Arg}
use Rattle.ent_functions.specs.declared.arg.Arg.TheVariants.{One, Many, Fun}
use Rattle.ent_functions.specs.declared.arg.Fault.{Fault}
use Rattle.ent_functions.specs.declared.function.Function.{Function}
use Rattle.ent_functions.specs.declared.function.Function.TheVariants.{Or, And}
use Rattle.ent_functions.specs.Applied.{applied}
use Rattle.std.specs.Prelude.{Result, Ok, Err}
use Rattle.ent_policy.specs.declared.document.Designator.{Designator}
use Rattle.ent_policy.specs.declared.expression.Expression.{Expression}
use Rattle.ent_policy.specs.declared.expression.Expression.TheOpen.{Expression-F}
use Rattle.ent_policy.specs.declared.expression.Expression.TheFolds.{fold-Expression}
use Rattle.ent_policy.specs.declared.expression.VariableDefinition.{VariableDefinition}
use Rattle.ent_policy.specs.Variables.{definition_of}
use Rattle.ent_request.specs.declared.answer.Status.TheVariants.{MissingAttribute, ProcessingError}
use Rattle.ent_request.specs.declared.cause.What.TheVariants as what
use Rattle.ent_walk.specs.declared.evaluated.Evaluated.{Evaluated}
use Rattle.ent_walk.specs.declared.evaluated.Evaluated.TheVariants.{Known, Indeterminate}
use Rattle.ent_request.specs.declared.request.Request.{Request}
use Rattle.ent_request.specs.Looks.{Looks}
use Rattle.ent_request.specs.Note.{Note, failing}
use Rattle.ent_request.specs.Part.{Part, and_fails, mapped, that_fails, whole, without_look}
use Rattle.ent_request.specs.Sources.{demanded}

-- the bag of a designator, which is Indeterminate if it is empty and a value must be present (section 7.3.5)
abbrev pub bag_of : Designator → List Value → Evaluated
bag_of d [] = if d.must_be_present then Indeterminate MissingAttribute else Known (Many (record { datatype = d.datatype; values = [] }))
bag_of d (v ∷ vs) = Known (Many (record { datatype = d.datatype; values = v ∷ vs }))

-- a designator
abbrev pub designated : Looks → Request → Designator → Part Evaluated
designated looks request d = mapped (bag_of d) (demanded looks request d)

-- whether a boolean is the result whatever the other arguments are: True of `or`, False of `and` (appendix A.3.5)
abbrev pub decides : Function → Bool → Bool
decides Or boolean = boolean
decides And boolean = not boolean
decides function boolean = false

-- whether an argument is the result whatever the others are
abbrev pub settles : Function → Arg → Bool
settles function (One (Boolean boolean)) = decides function boolean
settles function argument = false

-- the same of what an argument comes to: one that is Indeterminate is the result too
abbrev pub is_result : Function → Evaluated → Bool
is_result function (Indeterminate status) = true
is_result function (Known argument) = settles function argument

-- the arguments of those that aren't Indeterminate
abbrev pub arguments_of : List Evaluated → List Arg
arguments_of [] = []
arguments_of (Known argument ∷ others) = argument ∷ arguments_of others
arguments_of (Indeterminate status ∷ others) = arguments_of others

-- what a function comes to: a fault is a processing error (sections 7.4 and 5.55, appendix B.8)
abbrev pub evaluated_of : Result Arg Fault → Evaluated
evaluated_of (Ok outcome) = Known outcome
evaluated_of (Err fault) = Indeterminate ProcessingError

-- a function of arguments: the first that is the result, if there is one, and else the value of the function
abbrev pub result_of : Function → List Evaluated → Evaluated
result_of function vs = unwrap_or (find (is_result function) vs) (evaluated_of (applied function (arguments_of vs)))

-- that a function fails which has a fault
abbrev pub fault_in : Function → Result Arg Fault → List Note
fault_in function (Ok outcome) = []
fault_in function (Err fault) = failing (what.Fault function fault)

-- the same, unless an argument is the result
abbrev pub fault_unless : Function → Option Evaluated → Result Arg Fault → List Note
fault_unless function None outcome = fault_in function outcome
fault_unless function (Some v) outcome = []

-- whether a function of arguments fails by itself
abbrev pub faults : Function → List Evaluated → List Note
faults function vs = fault_unless function (find (is_result function) vs) (applied function (arguments_of vs))

-- the arguments of a function, which are evaluated up to the first that is the result
abbrev pub arguments_part : Function → List (Part Evaluated) → Part (List Evaluated)
arguments_part function arguments = whole (is_result function) (λ vs. vs) arguments

-- a function of them
abbrev pub application : Function → List (Part Evaluated) → Part Evaluated
application function arguments =
    mapped (result_of function) (and_fails (arguments_part function arguments) (faults function))

-- one level, where `refer` gives what a variable comes to, with each argument already seen as what it comes to
abbrev pub meaning_step : Looks → Request → (List ℕ → Part Evaluated) → Expression-F (Part Evaluated) → Part Evaluated
meaning_step looks request refer (Expression-F.Value value) = without_look (Known (One value))
meaning_step looks request refer (Expression-F.Designator designator) = designated looks request designator
meaning_step looks request refer (Expression-F.Variable id) = refer id
meaning_step looks request refer (Expression-F.Apply function arguments) = application function arguments
meaning_step looks request refer (Expression-F.Function function) = without_look (Known (Fun function))

-- an expression, where `refer` gives what a variable comes to; arguments are evaluated up to the first that is the result
abbrev pub meaning_with : Looks → Request → (List ℕ → Part Evaluated) → Expression → Part Evaluated
meaning_with looks request refer = fold-Expression (Part Evaluated) (meaning_step looks request refer)

-- a definition's expression. No variable of a checked document is without a definition
abbrev pub defined_part : (Expression → Part Evaluated) → Option VariableDefinition → Part Evaluated
defined_part meaning None = that_fails what.Unfit (Indeterminate ProcessingError)
defined_part meaning (Some d) = meaning d.expression

-- a variable, through at most this many references (section 7.8). No chain of a checked document is longer than there are definitions
abbrev pub variable_part : Looks → Request → List VariableDefinition → ℕ → List ℕ → Part Evaluated
variable_part looks request definitions zero id = that_fails what.Unfit (Indeterminate ProcessingError)
variable_part looks request definitions (suc n) id = defined_part (meaning_with looks request (variable_part looks request definitions n)) (definition_of definitions id)

-- an expression among definitions, through at most this many references
abbrev pub meaning : Looks → Request → List VariableDefinition → ℕ → Expression → Part Evaluated
meaning looks request definitions n = meaning_with looks request (variable_part looks request definitions n)
