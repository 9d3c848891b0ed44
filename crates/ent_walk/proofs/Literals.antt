-- What functions come to for literals and designators.
use Rattle.std.proofs.Common.{◌≡◌, ℕ, Bool, true, false, List, [], ◌∷◌, ◌++◌, map, refl, sym, ap, ap₂, ◌∙◌, subst, Option, Some, None}
use Rattle.std.specs.Prelude.{IsSome, option_and_then, if◌then◌else◌}
use Rattle.std.specs.Cmp.Lexicographic.{pointwise}
use Rattle.std.proofs.lemmas.List.{append-nil}
use Rattle.ent_values.specs.Same.{same_value}
use Rattle.ent_values.specs.declared.datatype.DataType.{DataType}
use Rattle.ent_values.specs.declared.value.Value.{Value}
use Rattle.ent_values.specs.declared.value.Value.TheVariants as value
use Rattle.ent_functions.specs.Applied.{applied, first_order}
use Rattle.ent_functions.specs.Sets.{is_among}
use Rattle.ent_functions.specs.Types.{bag_of as bag_type, boolean, element_type, first_order_type, result_type_of, same_type, value_of}
use Rattle.ent_functions.specs.declared.arg.Arg.TheVariants.{Many, One}
use Rattle.ent_functions.specs.declared.function.Element.{Element}
use Rattle.ent_functions.specs.declared.function.Function.{Function}
use Rattle.ent_functions.specs.declared.function.Function.TheVariants as functions
use Rattle.ent_functions.specs.declared.types.ArgType.{ArgType}
use Rattle.ent_functions.specs.declared.types.ArgType.TheVariants as arg_types
use Rattle.ent_policy.specs.Typing.{all_typed, type_step, variable_type}
use Rattle.ent_policy.specs.declared.document.Designator.{Designator}
use Rattle.ent_policy.specs.declared.expression.Expression.{Expression}
use Rattle.ent_policy.specs.declared.expression.Expression.TheVariants as expressions
use Rattle.ent_policy.specs.declared.expression.Expression.TheOpen.{Expression-F}
use Rattle.ent_policy.specs.declared.expression.Expression.TheFolds.{fold-roll-Expression}
use Rattle.ent_policy.specs.declared.expression.VariableDefinition.{VariableDefinition}
use Rattle.ent_request.specs.declared.answer.Status.TheVariants.{MissingAttribute}
use Rattle.ent_walk.specs.declared.evaluated.Evaluated.{Evaluated}
use Rattle.ent_walk.specs.declared.evaluated.Evaluated.TheVariants.{Indeterminate, Known}
use Rattle.ent_request.specs.Note.{Note, asks}
use Rattle.ent_request.specs.declared.question.Question.TheVariants.{Of}
use Rattle.ent_request.specs.declared.request.Request.{Request}
use Rattle.ent_walk.specs.Expression.{application, bag_of, decides, designated, faults, is_result, meaning, meaning_step, result_of, variable_part}
use Rattle.ent_request.specs.Looks.{Looks}
use Rattle.ent_request.specs.Own.{is_empty, own_values}
use Rattle.ent_request.specs.Part.{Part, after_look, and_fails, and_then, mapped, notes_of, seen_parts, without_look}
use Rattle.ent_request.specs.Sources.{asked_of, demanded, designated_values, missing, source_values}
use Rattle.ent_walk.specs.proofs_only.Typed.{apply_type, type_of}
use Rattle.ent_walk.specs.proofs_only.Uncopied.{member, only_part}
use Rattle.ent_functions.proofs.Taking.{exactly_types}

-- a value is no result of a function that no boolean decides
pub goes-on : (f : Function) (v : Value) → ((b : Bool) → decides f b ≡ false) → is_result f (Known (One v)) ≡ false
goes-on f (value.Text t) none = refl
goes-on f (value.Boolean b) none = none b
goes-on f (value.Integer t) none = refl
goes-on f (value.Date t) none = refl
goes-on f (value.AnyUri t) none = refl
goes-on f (value.YearMonth t) none = refl
goes-on f (value.Time t) none = refl
goes-on f (value.DateTime t) none = refl

-- what is-in comes to for a bag that isn't empty
found : (e : Element) (d : Designator) (literal : Value) (vs : List Value) → is_empty vs ≡ false → Known (One (value.Boolean (is_among literal vs))) ≡ result_of (functions.IsIn e) (Known (One literal) ∷ bag_of d vs ∷ [])
unfolding applied first_order
found e d literal [] some = absurd (cc)
found e d literal (v ∷ vs) some = rw (goes-on (functions.IsIn e) literal (λ b. refl)) refl

-- what it comes to for any bag
in_bag : (e : Element) (v : Value) (d : Designator) (vs : List Value) → result_of (functions.IsIn e) (Known (One v) ∷ bag_of d vs ∷ []) ≡ member v d vs
unfolding applied first_order
in_bag e v d [] = at d.must_be_present where
  at : (must : Bool) → result_of (functions.IsIn e) (Known (One v) ∷ (if must then Indeterminate MissingAttribute else Known (Many (record { datatype = d.datatype; values = [] }))) ∷ [])
      ≡ (if must then Indeterminate MissingAttribute else Known (One (value.Boolean false)))
  at true = rw (goes-on (functions.IsIn e) v (λ b. refl)) refl
  at false = rw (goes-on (functions.IsIn e) v (λ b. refl)) refl
in_bag e v d (w ∷ ws) = sym (found e d v (w ∷ ws) refl)

-- what is asked for two parts of which the first isn't the result
two_asked : {A : Type 0} (stop : A → Bool) (p q : Part A) → stop p.value ≡ false → notes_of (seen_parts stop (p ∷ q ∷ [])) ≡ p.notes ++ q.notes
two_asked stop p q goes = ap (λ b. notes_of (if b then p ∷ [] else p ∷ (if stop q.value then q ∷ [] else q ∷ []))) goes ∙ last (stop q.value) where
  last : (b : Bool) → notes_of (p ∷ (if b then q ∷ [] else q ∷ [])) ≡ p.notes ++ q.notes
  last true = ap (λ qs. p.notes ++ qs) (append-nil q.notes)
  last false = ap (λ qs. p.notes ++ qs) (append-nil q.notes)

-- is-in doesn't fail by itself
no_fault_in : (e : Element) (v : Value) (d : Designator) (vs : List Value) → faults (functions.IsIn e) (Known (One v) ∷ bag_of d vs ∷ []) ≡ []
unfolding applied first_order
no_fault_in e v d [] = at d.must_be_present where
  at : (must : Bool) → faults (functions.IsIn e) (Known (One v) ∷ (if must then Indeterminate MissingAttribute else Known (Many (record { datatype = d.datatype; values = [] }))) ∷ []) ≡ []
  at true = rw (goes-on (functions.IsIn e) v (λ b. refl)) refl
  at false = rw (goes-on (functions.IsIn e) v (λ b. refl)) refl
no_fault_in e v d (w ∷ ws) = rw (goes-on (functions.IsIn e) v (λ b. refl)) refl

-- what is noted of two arguments and of a function that doesn't fail
pub two_noted : (stop : Evaluated → Bool) (p q : Part Evaluated) (failures : List Note) → stop p.value ≡ false → failures ≡ [] → notes_of (seen_parts stop (p ∷ q ∷ [])) ++ failures ≡ p.notes ++ q.notes
two_noted stop p q failures goes none = ap (λ ns. notes_of (seen_parts stop (p ∷ q ∷ [])) ++ ns) none ∙ append-nil (notes_of (seen_parts stop (p ∷ q ∷ []))) ∙ two_asked stop p q goes

-- a value for which this is noted
abbrev known : Value → List Note → Part Evaluated
known v notes = record { value = Known (One v); notes = notes }

-- is-in of a value and of what a designator's values come to
in_designator : (e : Element) (v : Value) (questions : List Note) (d : Designator) (p : Part (List Value))
    → application (functions.IsIn e) (known v questions ∷ mapped (bag_of d) p ∷ []) ≡ and_then (known v questions) (λ w. mapped (member v d) p)
in_designator e v questions d p = ap₂ (λ value asked. record { value = value; notes = asked }) (in_bag e v d p.value)
    (two_noted (is_result (functions.IsIn e)) (known v questions) (mapped (bag_of d) p) (faults (functions.IsIn e) (Known (One v) ∷ bag_of d p.value ∷ []))
    (goes-on (functions.IsIn e) v (λ b. refl)) (no_fault_in e v d p.value))

-- what equal comes to
same : (e : Element) (v w : Value) → result_of (functions.Equal e) (Known (One v) ∷ Known (One w) ∷ []) ≡ Known (One (value.Boolean (same_value v w)))
unfolding applied first_order
same e v w = rw (goes-on (functions.Equal e) v (λ b. refl), goes-on (functions.Equal e) w (λ b. refl)) refl

no_fault_equal : (e : Element) (v w : Value) → faults (functions.Equal e) (Known (One v) ∷ Known (One w) ∷ []) ≡ []
unfolding applied first_order
no_fault_equal e v w = rw (goes-on (functions.Equal e) v (λ b. refl), goes-on (functions.Equal e) w (λ b. refl)) refl

-- equal of two values
of_two : (e : Element) (v w : Value) (first second : List Note)
    → application (functions.Equal e) (known v first ∷ known w second ∷ []) ≡ record { value = Known (One (value.Boolean (same_value v w))); notes = first ++ second }
of_two e v w first second = ap₂ (λ value asked. record { value = value; notes = asked }) (same e v w)
    (two_noted (is_result (functions.Equal e)) (known v first) (known w second) (faults (functions.Equal e) (Known (One v) ∷ Known (One w) ∷ []))
    (goes-on (functions.Equal e) v (λ b. refl)) (no_fault_equal e v w))

module _ (looks : Looks) (request : Request) (definitions : List VariableDefinition) (n : ℕ) where
  rolled : (f : Function) (given : List Expression)
      → meaning looks request definitions n (expressions.Apply f given) ≡ application f (map (meaning looks request definitions n) given)
  unfolding Rattle.ent_policy.specs.declared.expression.Expression.TheViews.roll-Expression denote.Hole.Carrier.roll
  rolled f given = fold-roll-Expression (Part Evaluated) (meaning_step looks request (variable_part looks request definitions n)) (Expression-F.Apply f given)

  -- a function of arguments
  pub application-part : (x : Expression) (f : Function) (given seen : List Expression) → x ≡ expressions.Apply f given → seen ≡ given
      → meaning looks request definitions n x ≡ application f (map (meaning looks request definitions n) seen)
  application-part x f given seen is given-is =
      ap (meaning looks request definitions n) is ∙ rolled f given ∙ ap (λ es. application f (map (meaning looks request definitions n) es)) (sym given-is)

  pub designator-part : (d : Designator) → meaning looks request definitions n (expressions.Designator d) ≡ designated looks request d
  unfolding Rattle.ent_policy.specs.declared.expression.Expression.TheViews.roll-Expression denote.Hole.Carrier.roll
  designator-part d = fold-roll-Expression (Part Evaluated) (meaning_step looks request (variable_part looks request definitions n)) (Expression-F.Designator d)

  -- a designator with one value
  found-part : (d : Designator) (v : Value) → designated_values looks request d ≡ v ∷ [] → designated looks request d ≡ record { value = bag_of d (v ∷ []); notes = asks (Of (asked_of d)) ∷ [] }
  found-part d v found = ap (λ vs. mapped (bag_of d) (and_fails (after_look (Of (asked_of d)) (without_look vs)) (missing d))) found

  -- the request's own are its values, if there are any
  own-found : (d : Designator) (v : Value) → own_values d request ≡ v ∷ [] → designated_values looks request d ≡ v ∷ []
  own-found d v own = ap (λ vs. if is_empty vs then source_values looks request d else vs) own

  one : (e : Element) (d : Designator) (v : Value) (question : Note)
      → application (functions.OneAndOnly e) (record { value = bag_of d (v ∷ []); notes = question ∷ [] } ∷ []) ≡ known v (question ∷ [])
  unfolding applied first_order
  one e d v question = refl

  -- one-and-only of a designator, whatever its values are
  pub only-part : (f : Function) (e : Element) (d : Designator) (given : List Expression) → f ≡ functions.OneAndOnly e → given ≡ expressions.Designator d ∷ []
      → application f (map (meaning looks request definitions n) given) ≡ application (functions.OneAndOnly e) (designated looks request d ∷ [])
  only-part f e d given f-is is =
      ap (λ h. application h (map (meaning looks request definitions n) given)) f-is
      ∙ ap (application (functions.OneAndOnly e)) (ap (map (meaning looks request definitions n)) is ∙ ap (λ p. p ∷ []) (designator-part d))

  -- one-and-only of a designator with one value
  pub only-found : (e : Element) (d : Designator) (v : Value) → designated_values looks request d ≡ v ∷ [] → application (functions.OneAndOnly e) (designated looks request d ∷ []) ≡ only_part d v
  only-found e d v found = ap (λ p. application (functions.OneAndOnly e) (p ∷ [])) (found-part d v found) ∙ one e d v (asks (Of (asked_of d)))

  -- the same, where the value is the request's own
  pub only : (f : Function) (e : Element) (d : Designator) (v : Value) (given : List Expression) (questions : List Note) → f ≡ functions.OneAndOnly e → given ≡ expressions.Designator d ∷ []
      → own_values d request ≡ v ∷ [] → questions ≡ asks (Of (asked_of d)) ∷ []
      → application f (map (meaning looks request definitions n) given) ≡ known v questions
  only f e d v given questions f-is is own asked-is = only-part f e d given f-is is ∙ only-found e d v (own-found d v own) ∙ ap (known v) (sym asked-is)

  -- is-in of a value and a designator
  pub is-in-part : (f : Function) (e : Element) (given : List Expression) (x y : Expression) (v : Value) (questions : List Note) (d : Designator) → f ≡ functions.IsIn e → given ≡ x ∷ y ∷ []
      → meaning looks request definitions n x ≡ known v questions → y ≡ expressions.Designator d
      → application f (map (meaning looks request definitions n) given) ≡ and_then (known v questions) (λ w. mapped (member v d) (demanded looks request d))
  is-in-part f e given x y v questions d f-is is first second =
      ap (λ xs. application f (map (meaning looks request definitions n) xs)) is
      ∙ ap (λ p. application f (p ∷ meaning looks request definitions n y ∷ [])) first
      ∙ ap (λ p. application f (known v questions ∷ p ∷ [])) (ap (meaning looks request definitions n) second ∙ designator-part d)
      ∙ ap (λ g. application g (known v questions ∷ designated looks request d ∷ [])) f-is
      ∙ in_designator e v questions d (demanded looks request d)

  -- equal of two values
  pub equal-part : (f : Function) (e : Element) (given : List Expression) (x y : Expression) (v w : Value) (first second : List Note) → f ≡ functions.Equal e → given ≡ x ∷ y ∷ []
      → meaning looks request definitions n x ≡ known v first → meaning looks request definitions n y ≡ known w second
      → application f (map (meaning looks request definitions n) given) ≡ record { value = Known (One (value.Boolean (same_value v w))); notes = first ++ second }
  equal-part f e given x y v w first second f-is is one two =
      ap (λ xs. application f (map (meaning looks request definitions n) xs)) is
      ∙ ap (λ p. application f (p ∷ meaning looks request definitions n y ∷ [])) one
      ∙ ap (λ p. application f (known v first ∷ p ∷ [])) two
      ∙ ap (λ g. application g (known v first ∷ known w second ∷ [])) f-is ∙ of_two e v w first second

-- ---- types

pub some_if : (b : Bool) (t : ArgType) → IsSome (if b then Some t else None) → (if b then Some t else None) ≡ Some t
some_if true t some = refl
some_if false t some = absurd (cc)

is_in_typed : (e : Element) (types : Option (List ArgType)) → IsSome (option_and_then (result_type_of (functions.IsIn e)) types) → option_and_then (result_type_of (functions.IsIn e)) types ≡ Some boolean
unfolding result_type_of first_order_type
is_in_typed e None some = absurd (cc)
is_in_typed e (Some ts) some = some_if (pointwise same_type ts (value_of e ∷ bag_type e ∷ [])) boolean some

equal_typed : (e : Element) (types : Option (List ArgType)) → IsSome (option_and_then (result_type_of (functions.Equal e)) types) → option_and_then (result_type_of (functions.Equal e)) types ≡ Some boolean
unfolding result_type_of first_order_type
equal_typed e None some = absurd (cc)
equal_typed e (Some ts) some = some_if (pointwise same_type ts (value_of e ∷ value_of e ∷ [])) boolean some

pub designator-type : (definitions : List VariableDefinition) (n : ℕ) (d : Designator) → type_of definitions n (expressions.Designator d) ≡ Some (arg_types.Many d.datatype)
unfolding Rattle.ent_policy.specs.declared.expression.Expression.TheViews.roll-Expression denote.Hole.Carrier.roll
designator-type definitions n d = fold-roll-Expression (Option ArgType) (type_step (variable_type definitions n)) (Expression-F.Designator d)

only_typed : (e : Element) (t : DataType) → IsSome (result_type_of (functions.OneAndOnly e) (arg_types.Many t ∷ [])) → result_type_of (functions.OneAndOnly e) (arg_types.Many t ∷ []) ≡ Some (arg_types.One t)
unfolding result_type_of first_order_type
only_typed e t some =
    let taken : arg_types.Many t ∷ [] ≡ bag_type e ∷ [] = exactly_types (bag_type e ∷ []) (value_of e) (arg_types.Many t ∷ []) refl some in
    let same : t ≡ element_type e = cc in
    some_if (pointwise same_type (arg_types.Many t ∷ []) (bag_type e ∷ [])) (value_of e) some ∙ ap (λ u. Some (arg_types.One u)) (sym same)

module _ (definitions : List VariableDefinition) (n : ℕ) where
  -- the type of a function, by which it is
  typed_as : (f g : Function) (given : List Expression) (type : ArgType) → f ≡ g
      → (IsSome (apply_type definitions n g given) → apply_type definitions n g given ≡ Some type)
      → IsSome (apply_type definitions n f given) → apply_type definitions n f given ≡ Some type
  typed_as f g given type is typed some =
      let same = ap (λ h. apply_type definitions n h given) is in
      same ∙ typed (subst IsSome same some)

  -- is-in and equal give a boolean
  pub is-in-type : (f : Function) (e : Element) (given : List Expression) → f ≡ functions.IsIn e → IsSome (apply_type definitions n f given) → apply_type definitions n f given ≡ Some boolean
  is-in-type f e given is = typed_as f (functions.IsIn e) given boolean is (is_in_typed e (all_typed (map (type_of definitions n) given)))

  pub equal-type : (f : Function) (e : Element) (given : List Expression) → f ≡ functions.Equal e → IsSome (apply_type definitions n f given) → apply_type definitions n f given ≡ Some boolean
  equal-type f e given is = typed_as f (functions.Equal e) given boolean is (equal_typed e (all_typed (map (type_of definitions n) given)))

  -- one-and-only of a designator a value of its type
  pub only-type : (f : Function) (e : Element) (d : Designator) (given : List Expression) → f ≡ functions.OneAndOnly e → given ≡ expressions.Designator d ∷ [] → IsSome (apply_type definitions n f given)
      → apply_type definitions n f given ≡ Some (arg_types.One d.datatype)
  only-type f e d given f-is is some =
      let type-is : apply_type definitions n f given ≡ result_type_of (functions.OneAndOnly e) (arg_types.Many d.datatype ∷ []) =
      ap (λ g. apply_type definitions n g given) f-is ∙ ap (apply_type definitions n (functions.OneAndOnly e)) is
      ∙ ap (λ t. option_and_then (result_type_of (functions.OneAndOnly e)) (all_typed (t ∷ []))) (designator-type definitions n d) in
      type-is ∙ only_typed e d.datatype (subst IsSome type-is some)
