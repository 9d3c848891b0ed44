-- Functions that need no copy of their arguments, whatever is held and whatever the definitions are.
use Rattle.std.specs.Prelude.{◌≡◌, ℕ, List, [], ◌∷◌, ◌++◌, Bool, if◌then◌else◌, IsSome, Some, option_copied}
use Rattle.std.specs.List.{list_any}
use Rattle.ent_values.specs.Same.{same_value}
use Rattle.ent_values.specs.declared.value.Value.{Value}
use Rattle.ent_values.specs.declared.value.Value.TheVariants.{Boolean}
use Rattle.ent_functions.specs.declared.arg.Arg.TheVariants.{One}
use Rattle.ent_functions.specs.declared.function.Element.{Element}
use Rattle.ent_functions.specs.declared.function.Function.{Function}
use Rattle.ent_functions.specs.declared.function.Function.TheVariants as functions
use Rattle.ent_functions.specs.declared.types.ArgType.{ArgType}
use Rattle.ent_functions.specs.declared.types.ArgType.TheVariants as types
use Rattle.ent_functions.specs.Sets.{is_among}
use Rattle.ent_functions.specs.Types.{boolean}
use Rattle.ent_policy.specs.declared.document.Designator.{Designator}
use Rattle.ent_policy.specs.declared.expression.Expression.{Expression}
use Rattle.ent_policy.specs.declared.expression.VariableDefinition.{VariableDefinition}
use Rattle.ent_request.specs.declared.answer.Status.TheVariants.{MissingAttribute}
use Rattle.ent_walk.specs.declared.evaluated.Evaluated.{Evaluated}
use Rattle.ent_walk.specs.declared.evaluated.Evaluated.TheVariants.{Indeterminate, Known}
use Rattle.ent_request.specs.declared.question.Question.TheVariants.{Of}
use Rattle.ent_request.specs.declared.request.Request.{Request}
use Rattle.ent_walk.specs.declared.uncopied.Sole.{Sole}
use Rattle.ent_walk.specs.declared.uncopied.Uncopied.{Uncopied}
use Rattle.ent_walk.specs.declared.walk.Walk.{Walk}
use Rattle.ent_walk.specs.declared.uncopied.Uncopied.TheVariants.{AnyOf, Equal, IsIn, OneAndOnly}
use Rattle.ent_walk.specs.Expression.{application, designated, meaning}
use Rattle.ent_request.specs.Looks.{Looks}
use Rattle.ent_request.specs.Note.{asks}
use Rattle.ent_request.specs.Own.{own_values}
use Rattle.ent_request.specs.Part.{Part, and_then, mapped}
use Rattle.ent_request.specs.Sources.{asked_of, demanded}
use Rattle.ent_walk.specs.proofs_only.Expression.{apply_part}
use Rattle.ent_trace.specs.proofs_only.Noted.{asked_by}
use Rattle.ent_walk.specs.proofs_only.Comes.{Comes}
use Rattle.ent_walk.specs.proofs_only.Typed.{HasType, Tests, apply_type}
use Rattle.ent_walk.specs.Target.{is_true}

-- a value, and what is asked for it
abbrev pub sole_part : Sole → Part Evaluated
sole_part s = record { value = Known (One s.value.now); notes = asked_by (option_copied s.asked) }

-- an expression comes to one value
abbrev pub IsSole : Request → Expression → Sole → Type 0
IsSole request e s = (looks : Looks) (definitions : List VariableDefinition) (references : ℕ)
    → meaning looks request definitions references e ≡ sole_part s

-- a function of arguments does
abbrev pub ComesTo : Request → Function → List Expression → Sole → Type 0
ComesTo request function arguments s = (looks : Looks) (definitions : List VariableDefinition) (references : ℕ)
    → apply_part looks request definitions references function arguments ≡ sole_part s

-- the request has that value alone for a designator, which is asked for it
abbrev pub IsOnly : Request → Designator → Sole → Type 0
IsOnly request d s = (own_values d request ≡ s.value.now ∷ []) × (option_copied s.asked ≡ Some d)

-- the only one of a designator's values, which are asked for
abbrev pub only_part : Designator → Value → Part Evaluated
only_part d v = record { value = Known (One v); notes = asks (Of (asked_of d)) ∷ [] }

-- whether two values are equal
abbrev pub equal_part : Sole → Sole → Part Evaluated
equal_part s t = record {
  value = Known (One (Boolean (same_value s.value.now t.value.now)));
  notes = asked_by (option_copied s.asked) ++ asked_by (option_copied t.asked);
}

-- what is told of a designator's values: it is Indeterminate without one if one must be present (section 7.3.5)
abbrev pub told : Designator → List Value → Bool → Evaluated
told d [] is_so = if d.must_be_present then Indeterminate MissingAttribute else Known (One (Boolean is_so))
told d (w ∷ ws) is_so = Known (One (Boolean is_so))

-- is-in of a value and the values of a designator (appendix A.3.10)
abbrev pub member : Value → Designator → List Value → Evaluated
member v d ws = told d ws (is_among v ws)

-- is-in of a value and a designator
abbrev pub member_part : Looks → Request → Sole → Designator → Part Evaluated
member_part looks request s d =
    and_then (sole_part s) (λ v. mapped (member s.value.now d) (demanded looks request d))

-- any-of of a function, a literal and the values of a designator (appendix A.3.12)
abbrev pub any : Function → Value → Designator → List Value → Evaluated
any f v d ws = told d ws (list_any (is_true f v) ws)

-- what a function of such arguments comes to
abbrev pub uncopied_part : Looks → Request → Uncopied → Part Evaluated
uncopied_part looks request (Equal s t) = equal_part s t
uncopied_part looks request (IsIn s d) = member_part looks request s d.now
uncopied_part looks request (OneAndOnly e d) =
    application (functions.OneAndOnly e) (designated looks request d.now ∷ [])
uncopied_part looks request (AnyOf f v d) = mapped (any f v.now d.now) (demanded looks request d.now)

-- its type
abbrev pub uncopied_type : Uncopied → ArgType
uncopied_type (Equal s t) = boolean
uncopied_type (IsIn s d) = boolean
uncopied_type (OneAndOnly e d) = types.One d.now.datatype
uncopied_type (AnyOf f v d) = boolean

-- any-of's function gives a boolean for the literal and values of the designator's type
abbrev pub IsTested : Uncopied → Type 0
IsTested (Equal s t) = Unit {0}
IsTested (IsIn s d) = Unit {0}
IsTested (OneAndOnly e d) = Unit {0}
IsTested (AnyOf f v d) = Tests f v.now d.now.datatype

-- a function of arguments is that
pub record IsUncopied (request : Request) (function : Function) (arguments : List Expression) (u : Uncopied) : Type 0 where
  pub part : (looks : Looks) (definitions : List VariableDefinition) (references : ℕ)
      → apply_part looks request definitions references function arguments ≡ uncopied_part looks request u
  pub typed : (definitions : List VariableDefinition) (references : ℕ)
      → IsSome (apply_type definitions references function arguments)
      → apply_type definitions references function arguments ≡ Some (uncopied_type u)
  pub tested : (definitions : List VariableDefinition) (references : ℕ)
      → IsSome (apply_type definitions references function arguments) → IsTested u

-- a function takes the arguments
abbrev pub IsTyped : Function → List Expression → Type 0
IsTyped function arguments = (definitions : List VariableDefinition) × (references : ℕ)
    × IsSome (apply_type definitions references function arguments)

-- a value came of a function of arguments
abbrev pub ComesOf : {L : Type 0} → Looks → Request → Function → List Expression → Walk L → Walk L → Evaluated → Type 0
ComesOf looks request function arguments before after v = (definitions : List VariableDefinition) (references : ℕ)
    → Comes (apply_part looks request definitions references function arguments) before after v

-- it has the type of the function, where it takes the arguments
abbrev pub HasItsType : Function → List Expression → Evaluated → Type 0
HasItsType function arguments v = (definitions : List VariableDefinition) (references : ℕ)
    → IsSome (apply_type definitions references function arguments)
    → HasType (apply_type definitions references function arguments) v

-- a value came of one-and-only of a designator
abbrev pub ComesOfOnly : {L : Type 0} → Looks → Request → Designator → Walk L → Walk L → Evaluated → Type 0
ComesOfOnly looks request d before after v = (e : Element)
    → Comes (application (functions.OneAndOnly e) (designated looks request d ∷ [])) before after v
