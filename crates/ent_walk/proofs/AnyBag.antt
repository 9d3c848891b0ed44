-- Any-of of a function, a literal and a designator.
use Rattle.std.proofs.Common.{◌≡◌, ℕ, Bool, true, false, List, [], ◌∷◌, map, refl, ap, ap₂, ◌∙◌, subst, Option, Some, None}
use Rattle.std.specs.Prelude.{IsSome, option_and_then, if◌then◌else◌}
use Rattle.std.specs.List.{list_any}
use Rattle.std.proofs.lemmas.List.{append-nil}
use Rattle.ent_values.specs.Types.{datatype_of}
use Rattle.ent_values.specs.declared.datatype.DataType.{DataType}
use Rattle.ent_values.specs.declared.value.Value.{Value}
use Rattle.ent_values.specs.declared.value.Value.TheVariants as value
use Rattle.ent_functions.proofs.Taking.{same_plain}
use Rattle.ent_functions.specs.Applied.{all_of, any_of, applied, comes_true_with, first_order}
use Rattle.ent_functions.specs.Arguments.{comes_true}
use Rattle.ent_functions.specs.Types.{boolean, first_order_type, higher_order_type, is_boolean, result_type_of}
use Rattle.ent_functions.specs.declared.arg.Arg.TheVariants.{Fun, Many, One}
use Rattle.ent_functions.specs.declared.function.Function.{Function}
use Rattle.ent_functions.specs.declared.function.Function.TheVariants as functions
use Rattle.ent_functions.specs.declared.types.ArgType.{ArgType}
use Rattle.ent_functions.specs.declared.types.ArgType.TheVariants as arg_types
use Rattle.ent_policy.specs.Typing.{all_typed, is_boolean as gives_boolean, type_step, variable_type}
use Rattle.ent_policy.specs.declared.document.Designator.{Designator}
use Rattle.ent_policy.specs.declared.expression.Expression.{Expression}
use Rattle.ent_policy.specs.declared.expression.Expression.TheVariants as expressions
use Rattle.ent_policy.specs.declared.expression.Expression.TheOpen.{Expression-F}
use Rattle.ent_policy.specs.declared.expression.Expression.TheFolds.{fold-roll-Expression}
use Rattle.ent_policy.specs.declared.expression.VariableDefinition.{VariableDefinition}
use Rattle.ent_request.specs.declared.answer.Status.TheVariants.{MissingAttribute}
use Rattle.ent_walk.specs.declared.evaluated.Evaluated.{Evaluated}
use Rattle.ent_walk.specs.declared.evaluated.Evaluated.TheVariants.{Indeterminate, Known}
use Rattle.ent_request.specs.declared.request.Request.{Request}
use Rattle.ent_walk.specs.Expression.{application, bag_of, faults, is_result, meaning, meaning_step, result_of, variable_part}
use Rattle.ent_request.specs.Looks.{Looks}
use Rattle.ent_request.specs.Part.{Part, mapped, without_look}
use Rattle.ent_request.specs.Sources.{demanded}
use Rattle.ent_walk.specs.Target.{is_true}
use Rattle.ent_walk.specs.proofs_only.Typed.{Tests, apply_type, type_of}
use Rattle.ent_walk.specs.proofs_only.Uncopied.{any}
use Rattle.ent_walk.proofs.Literals.{designator-part, designator-type, goes-on, some_if, two_noted}

-- a function of two values is True in the bag's place where it is so by itself
same_test : (f : Function) (v w : Value) → comes_true (first_order f (One v ∷ One w ∷ [])) ≡ is_true f v w
unfolding applied any_of all_of first_order
same_test (functions.Equal e) v w = refl
same_test (functions.Compare c o) v w = refl
same_test functions.Add v w = refl
same_test functions.Subtract v w = refl
same_test functions.Multiply v w = refl
same_test functions.Divide v w = refl
same_test functions.Mod v w = refl
same_test functions.Abs v w = refl
same_test functions.Or v w = refl
same_test functions.And v w = refl
same_test functions.Not v w = refl
same_test (functions.OneAndOnly e) v w = refl
same_test (functions.BagSize e) v w = refl
same_test (functions.IsIn e) v w = refl
same_test (functions.Bag e) v w = refl
same_test (functions.Intersection e) v w = refl
same_test (functions.Union e) v w = refl
same_test (functions.AtLeastOneMemberOf e) v w = refl
same_test (functions.Subset e) v w = refl
same_test (functions.SetEquals e) v w = refl
same_test functions.Concatenate v w = refl
same_test functions.StartsWith v w = refl
same_test functions.EndsWith v w = refl
same_test functions.Contains v w = refl
same_test functions.DateAdd v w = refl
same_test functions.DateSubtract v w = refl
same_test functions.AnyOf v w = refl
same_test functions.AllOf v w = refl

-- what any-of comes to for any bag
in_any : (f : Function) (v : Value) (d : Designator) (vs : List Value) → result_of functions.AnyOf (Known (Fun f) ∷ Known (One v) ∷ bag_of d vs ∷ []) ≡ any f v d vs
unfolding applied any_of
in_any f v d [] = at d.must_be_present where
  at : (must : Bool) → result_of functions.AnyOf (Known (Fun f) ∷ Known (One v) ∷ (if must then Indeterminate MissingAttribute else Known (Many (record { datatype = d.datatype; values = [] }))) ∷ [])
      ≡ (if must then Indeterminate MissingAttribute else Known (One (value.Boolean false)))
  at true = rw (goes-on functions.AnyOf v (λ b. refl)) refl
  at false = rw (goes-on functions.AnyOf v (λ b. refl)) refl
in_any f v d (w ∷ ws) = rw (goes-on functions.AnyOf v (λ b. refl)) (ap (λ vs. Known (One (value.Boolean (list_any (comes_true_with f (One v ∷ Many (record { datatype = d.datatype; values = w ∷ ws }) ∷ [])) vs)))) (append-nil (w ∷ ws))
    ∙ ap (λ test. Known (One (value.Boolean (list_any test (w ∷ ws))))) (λ j. λ x. same_test f v x j))

-- it doesn't fail by itself
no_fault : (f : Function) (v : Value) (d : Designator) (vs : List Value) → faults functions.AnyOf (Known (Fun f) ∷ Known (One v) ∷ bag_of d vs ∷ []) ≡ []
unfolding applied any_of
no_fault f v d [] = at d.must_be_present where
  at : (must : Bool) → faults functions.AnyOf (Known (Fun f) ∷ Known (One v) ∷ (if must then Indeterminate MissingAttribute else Known (Many (record { datatype = d.datatype; values = [] }))) ∷ []) ≡ []
  at true = rw (goes-on functions.AnyOf v (λ b. refl)) refl
  at false = rw (goes-on functions.AnyOf v (λ b. refl)) refl
no_fault f v d (w ∷ ws) = rw (goes-on functions.AnyOf v (λ b. refl)) refl

-- any-of of a function, a literal and what a designator's values come to
in_designator : (f : Function) (v : Value) (d : Designator) (p : Part (List Value))
    → application functions.AnyOf (without_look (Known (Fun f)) ∷ without_look (Known (One v)) ∷ mapped (bag_of d) p ∷ []) ≡ mapped (any f v d) p
in_designator f v d p = ap₂ (λ value asked. record { value = value; notes = asked }) (in_any f v d p.value)
    (two_noted (is_result functions.AnyOf) (without_look (Known (One v))) (mapped (bag_of d) p) (faults functions.AnyOf (Known (Fun f) ∷ Known (One v) ∷ bag_of d p.value ∷ []))
    (goes-on functions.AnyOf v (λ b. refl)) (no_fault f v d p.value))

module _ (looks : Looks) (request : Request) (definitions : List VariableDefinition) (n : ℕ) where
  value-part : (v : Value) → meaning looks request definitions n (expressions.Value v) ≡ without_look (Known (One v))
  unfolding Rattle.ent_policy.specs.declared.expression.Expression.TheViews.roll-Expression denote.Hole.Carrier.roll
  value-part v = fold-roll-Expression (Part Evaluated) (meaning_step looks request (variable_part looks request definitions n)) (Expression-F.Value v)

  function-part : (f : Function) → meaning looks request definitions n (expressions.Function f) ≡ without_look (Known (Fun f))
  unfolding Rattle.ent_policy.specs.declared.expression.Expression.TheViews.roll-Expression denote.Hole.Carrier.roll
  function-part f = fold-roll-Expression (Part Evaluated) (meaning_step looks request (variable_part looks request definitions n)) (Expression-F.Function f)

  pub any-of-part : (g f : Function) (v : Value) (d : Designator) (given : List Expression) → g ≡ functions.AnyOf → given ≡ expressions.Function f ∷ expressions.Value v ∷ expressions.Designator d ∷ []
      → application g (map (meaning looks request definitions n) given) ≡ mapped (any f v d) (demanded looks request d)
  any-of-part g f v d given g-is is =
      ap (λ h. application h (map (meaning looks request definitions n) given)) g-is
      ∙ ap (λ xs. application functions.AnyOf (map (meaning looks request definitions n) xs)) is
      ∙ ap (λ p. application functions.AnyOf (p ∷ meaning looks request definitions n (expressions.Value v) ∷ meaning looks request definitions n (expressions.Designator d) ∷ [])) (function-part f)
      ∙ ap (λ p. application functions.AnyOf (without_look (Known (Fun f)) ∷ p ∷ meaning looks request definitions n (expressions.Designator d) ∷ [])) (value-part v)
      ∙ ap (λ p. application functions.AnyOf (without_look (Known (Fun f)) ∷ without_look (Known (One v)) ∷ p ∷ [])) (designator-part looks request definitions n d)
      ∙ in_designator f v d (demanded looks request d)

-- ---- types

value-type : (definitions : List VariableDefinition) (n : ℕ) (v : Value) → type_of definitions n (expressions.Value v) ≡ Some (arg_types.One (datatype_of v))
unfolding Rattle.ent_policy.specs.declared.expression.Expression.TheViews.roll-Expression denote.Hole.Carrier.roll
value-type definitions n v = fold-roll-Expression (Option ArgType) (type_step (variable_type definitions n)) (Expression-F.Value v)

function-type : (definitions : List VariableDefinition) (n : ℕ) (f : Function) → type_of definitions n (expressions.Function f) ≡ Some (arg_types.Fun f)
unfolding Rattle.ent_policy.specs.declared.expression.Expression.TheViews.roll-Expression denote.Hole.Carrier.roll
function-type definitions n f = fold-roll-Expression (Option ArgType) (type_step (variable_type definitions n)) (Expression-F.Function f)

-- the type of any-of of these three
any-type : (definitions : List VariableDefinition) (n : ℕ) (g f : Function) (v : Value) (d : Designator) (given : List Expression) → g ≡ functions.AnyOf
    → given ≡ expressions.Function f ∷ expressions.Value v ∷ expressions.Designator d ∷ []
    → apply_type definitions n g given ≡ result_type_of functions.AnyOf (arg_types.Fun f ∷ arg_types.One (datatype_of v) ∷ arg_types.Many d.datatype ∷ [])
any-type definitions n g f v d given g-is is =
    let type = type_of definitions n in
    let typed = λ (types : List (Option ArgType)). option_and_then (result_type_of functions.AnyOf) (all_typed types) in
    ap (λ h. apply_type definitions n h given) g-is ∙ ap (apply_type definitions n functions.AnyOf) is
    ∙ ap (λ t. typed (t ∷ type (expressions.Value v) ∷ type (expressions.Designator d) ∷ [])) (function-type definitions n f)
    ∙ ap (λ t. typed (Some (arg_types.Fun f) ∷ t ∷ type (expressions.Designator d) ∷ [])) (value-type definitions n v)
    ∙ ap (λ t. typed (Some (arg_types.Fun f) ∷ Some (arg_types.One (datatype_of v)) ∷ t ∷ [])) (designator-type definitions n d)

if_some : (b : Bool) (t : ArgType) → IsSome (if b then Some t else None) → b ≡ true
if_some true t some = refl
if_some false t some = absurd (cc)

any_typed : (f : Function) (t u : DataType) → IsSome (result_type_of functions.AnyOf (arg_types.Fun f ∷ arg_types.One t ∷ arg_types.Many u ∷ []))
    → result_type_of functions.AnyOf (arg_types.Fun f ∷ arg_types.One t ∷ arg_types.Many u ∷ []) ≡ Some boolean
unfolding result_type_of higher_order_type
any_typed f t u some = some_if (is_boolean (first_order_type f (arg_types.One t ∷ arg_types.One u ∷ []))) boolean some

any_tests : (f : Function) (t u : DataType) → IsSome (result_type_of functions.AnyOf (arg_types.Fun f ∷ arg_types.One t ∷ arg_types.Many u ∷ []))
    → is_boolean (first_order_type f (arg_types.One t ∷ arg_types.One u ∷ [])) ≡ true
unfolding result_type_of higher_order_type
any_tests f t u some = if_some (is_boolean (first_order_type f (arg_types.One t ∷ arg_types.One u ∷ []))) boolean some

same_types : (f : Function) (ts : List ArgType) → is_boolean (first_order_type f ts) ≡ true → is_boolean (result_type_of f ts) ≡ true
unfolding result_type_of first_order_type
same_types (functions.Equal e) ts is = is
same_types (functions.Compare c o) ts is = is
same_types functions.Add ts is = is
same_types functions.Subtract ts is = is
same_types functions.Multiply ts is = is
same_types functions.Divide ts is = is
same_types functions.Mod ts is = is
same_types functions.Abs ts is = is
same_types functions.Or ts is = is
same_types functions.And ts is = is
same_types functions.Not ts is = is
same_types (functions.OneAndOnly e) ts is = is
same_types (functions.BagSize e) ts is = is
same_types (functions.IsIn e) ts is = is
same_types (functions.Bag e) ts is = is
same_types (functions.Intersection e) ts is = is
same_types (functions.Union e) ts is = is
same_types (functions.AtLeastOneMemberOf e) ts is = is
same_types (functions.Subset e) ts is = is
same_types (functions.SetEquals e) ts is = is
same_types functions.Concatenate ts is = is
same_types functions.StartsWith ts is = is
same_types functions.EndsWith ts is = is
same_types functions.Contains ts is = is
same_types functions.DateAdd ts is = is
same_types functions.DateSubtract ts is = is
same_types functions.AnyOf ts is = absurd (cc)
same_types functions.AllOf ts is = absurd (cc)

boolean_so : (type : Option ArgType) → is_boolean type ≡ true → gives_boolean type ≡ true
boolean_so None is = absurd (cc)
boolean_so (Some t) is = ap (λ u. gives_boolean (Some u)) (same_plain t boolean refl is)

-- any-of of these gives a boolean
pub any-of-type : (definitions : List VariableDefinition) (n : ℕ) (g f : Function) (v : Value) (d : Designator) (given : List Expression) → g ≡ functions.AnyOf
    → given ≡ expressions.Function f ∷ expressions.Value v ∷ expressions.Designator d ∷ [] → IsSome (apply_type definitions n g given) → apply_type definitions n g given ≡ Some boolean
any-of-type definitions n g f v d given g-is is some =
    let type-is = any-type definitions n g f v d given g-is is in
    type-is ∙ any_typed f (datatype_of v) d.datatype (subst IsSome type-is some)

-- the function gives one for the literal and each value
pub are_tested : (definitions : List VariableDefinition) (n : ℕ) (g f : Function) (v : Value) (d : Designator) (given : List Expression) → g ≡ functions.AnyOf
    → given ≡ expressions.Function f ∷ expressions.Value v ∷ expressions.Designator d ∷ [] → IsSome (apply_type definitions n g given) → Tests f v d.datatype
are_tested definitions n g f v d given g-is is some =
    let given-types = arg_types.One (datatype_of v) ∷ arg_types.One d.datatype ∷ [] in
    boolean_so (result_type_of f given-types) (same_types f given-types (any_tests f (datatype_of v) d.datatype (subst IsSome (any-type definitions n g f v d given g-is is) some)))
