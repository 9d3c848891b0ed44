-- Every integer in what is read is within signed 64 bits, and every date and time is real.
use Rattle.std.specs.Prelude.{if◌then◌else◌}
use Rattle.std.proofs.Common.{◌≡◌, ℕ, ℤ, List, [], ◌∷◌, ◌++◌, map, Bool, true, false, ◌&&◌, take, drop, Option, Some, None, option_and_then, option_map, refl, sym, ap, subst, ◌∙◌}
use Rattle.std.proofs.lemmas.List.Folds.{flat_map-map}
use Rattle.std.specs.List.{AllByRecursion, flat_map}
use Rattle.std.specs.Option.{option_to_list}
use Rattle.std.specs.Str.Parse.{digits_value, signed_digits_value}
use Rattle.ent_values.specs.Calendar.{Day, TimeOfDay, day_of, is_date, is_time, time_of_day}
use Rattle.ent_values.specs.Reading.{boolean_of, date_of, date_time_of, duration_of, integer_of, is_within_64_bits, time_of, value_of}
use Rattle.ent_values.specs.declared.datatype.DataType.{DataType}
use Rattle.ent_values.specs.declared.datatype.DataType.TheVariants as types
use Rattle.ent_values.specs.declared.value.Value.{Value}
use Rattle.ent_values.specs.declared.value.Value.TheVariants as values
use Rattle.ent_policy.specs.Check.{IsChecked}
use Rattle.ent_policy.specs.Reading.{all_of_read, any_of_read, assignment_read, boolean_as, child_read, child_step, definition_read, designator_read, document_read, each_read, expression_read, expression_step, function_read, given_expression_read, given_read, integer_as, known, literal_as, match_read, maybe_read, policy_read, reference_read, rule_read, set_read, set_step, target_read, type_of_value, value_read}
use Rattle.ent_values.specs.ReadBack.{IsReal, IsRealDay, IsRealMoment, IsRealTime}
use Rattle.ent_policy.specs.Values.{HoldsWithin, all_of_values, any_of_values, assignment_values, child_values, definition_values, expression_values, given_values, match_values, policy_values, rule_values, target_values, values_given, values_here, values_in_level, values_in_set}
use Rattle.ent_policy.specs.declared.document.Child.{Child}
use Rattle.ent_policy.specs.declared.document.Child.TheFolds.{fold-roll-Child, fold_out-PolicySet}
use Rattle.ent_policy.specs.declared.document.Child.TheOpen.{Child-F}
use Rattle.ent_policy.specs.declared.document.Child.TheVariants as children
use Rattle.ent_policy.specs.declared.document.Policy.{Policy}
use Rattle.ent_policy.specs.declared.document.PolicySet.{PolicySet}
use Rattle.ent_policy.specs.declared.document.Tree.{Tree}
use Rattle.ent_policy.specs.declared.expression.Expression.{Expression}
use Rattle.ent_policy.specs.declared.expression.Expression.TheFolds.{fold-roll-Expression, map-Expression}
use Rattle.ent_policy.specs.declared.expression.Expression.TheOpen.{Expression-F}
use Rattle.ent_policy.specs.declared.expression.Expression.TheViews.{roll-Expression}
use Rattle.ent_policy.specs.declared.key.Reference.{Reference}
use Rattle.ent_policy.specs.declared.fault.DocFault.TheVariants as faults
use Rattle.ent_policy.specs.declared.raw.RawChild.{RawChild}
use Rattle.ent_policy.specs.declared.raw.RawChild.TheFolds.{fold-roll-RawChild, ind-RawPolicySet, map-RawChild, map-RawPolicySet}
use Rattle.ent_policy.specs.declared.raw.RawChild.TheOpen.{RawChild-F, RawPolicySet-F}
use Rattle.ent_policy.specs.declared.raw.RawChild.TheViews.{roll-RawChild, roll-RawPolicySet}
use Rattle.ent_policy.specs.declared.raw.RawAllOf.{RawAllOf}
use Rattle.ent_policy.specs.declared.raw.RawAnyOf.{RawAnyOf}
use Rattle.ent_policy.specs.declared.raw.RawAssignment.{RawAssignment}
use Rattle.ent_policy.specs.declared.raw.RawDocument.{RawDocument}
use Rattle.ent_policy.specs.declared.raw.RawDocument.TheVariants as raw
use Rattle.ent_policy.specs.declared.raw.RawExpression.{RawExpression}
use Rattle.ent_policy.specs.declared.raw.RawExpression.TheFolds.{fold-roll-RawExpression, ind-RawExpression, map-RawExpression}
use Rattle.ent_policy.specs.declared.raw.RawExpression.TheOpen.{RawExpression-F}
use Rattle.ent_policy.specs.declared.raw.RawExpression.TheViews.{roll-RawExpression}
use Rattle.ent_policy.specs.declared.raw.RawGivenExpression.{RawGivenExpression}
use Rattle.ent_policy.specs.declared.raw.RawGivenExpressions.{RawGivenExpressions}
use Rattle.ent_policy.specs.declared.raw.RawLiteral.{RawLiteral}
use Rattle.ent_policy.specs.declared.raw.RawLiteral.TheVariants as literals
use Rattle.ent_policy.specs.declared.raw.RawMatch.{RawMatch}
use Rattle.ent_policy.specs.declared.raw.RawPolicy.{RawPolicy}
use Rattle.ent_policy.specs.declared.raw.RawPolicySet.{RawPolicySet}
use Rattle.ent_policy.specs.declared.raw.RawRule.{RawRule}
use Rattle.ent_policy.specs.declared.raw.RawTarget.{RawTarget}
use Rattle.ent_policy.specs.declared.raw.RawValue.{RawValue}
use Rattle.ent_policy.specs.declared.raw.RawVariableDefinition.{RawVariableDefinition}
use Rattle.ent_policy.specs.declared.read.Read.{Read}
use Rattle.ent_policy.proofs.WhatIsRead.{set_is_read}
use Rattle.ent_policy.proofs.Wholes.{passes}

-- ---- a value

-- what is there has that property
abbrev Maybe : {A : Type 0} → (A → Type 0) → Option A → Type 0
Maybe Has None = Unit {0}
Maybe Has (Some x) = Has x

-- what is there is within
abbrev MaybeWithin : Option Value → Type 0
MaybeWithin = Maybe IsReal

if_so : {A : Type 0} (Has : A → Type 0) (b : Bool) (o : Option A) → (b ≡ true → Maybe Has o) → Maybe Has (if b then o else None)
if_so Has true o h = h refl
if_so Has false o h = tt

-- the value of what is there
value_of_it : {A : Type 0} (Has : A → Type 0) (value : A → Value) (o : Option A) → ((x : A) → Has x → IsReal (value x)) → Maybe Has o → MaybeWithin (option_map value o)
value_of_it Has value None real h = tt
value_of_it Has value (Some x) real h = real x h

any_value : {A : Type 0} (value : A → Value) (o : Option A) → ((x : A) → IsReal (value x)) → MaybeWithin (option_map value o)
any_value value None real = tt
any_value value (Some x) real = real x

both_true : (a b : Bool) → (a && b) ≡ true → b ≡ true
both_true true b h = h
both_true false b h = absurd cc

-- a number is within 64 bits
abbrev IsShort : ℤ → Type 0
IsShort n = is_within_64_bits n ≡ true

integer_within : (a b : Bool) (n : ℤ) → b ≡ is_within_64_bits n → Maybe IsShort (if a && b then Some n else None)
integer_within a b n same = if_so IsShort (a && b) (Some n) (λ h. sym same ∙ both_true a b h)

integer_real : (text : List ℕ) → Maybe IsShort (integer_of text)
unfolding integer_of
integer_real text = integer_within _ _ (signed_digits_value 10 text) refl

day_within : (b : Bool) (y m d : ℕ) → Maybe IsRealDay (if b then day_of y m d else None)
day_within b y m d = if_so IsRealDay b (day_of y m d) (λ _. if_so IsRealDay (is_date y m d) (Some (record { year = y; month = m; day = d })) (λ h. h))

day_real : (text : List ℕ) → Maybe IsRealDay (date_of text)
unfolding date_of
day_real text = day_within _ (digits_value 10 (take 4 text)) (digits_value 10 (take 2 (drop 5 text))) (digits_value 10 (take 2 (drop 8 text)))

time_within : (b : Bool) (h m s : ℕ) → Maybe IsRealTime (if b then time_of_day h m s else None)
time_within b h m s = if_so IsRealTime b (time_of_day h m s) (λ _. if_so IsRealTime (is_time h m s) (Some (record { hour = h; minute = m; second = s })) (λ real. real))

time_real : (text : List ℕ) → Maybe IsRealTime (time_of text)
unfolding time_of
time_real text = time_within _ (digits_value 10 (take 2 text)) (digits_value 10 (take 2 (drop 3 text))) (digits_value 10 (take 2 (drop 6 text)))

moment_within : (date : Option Day) (time : Option TimeOfDay) → Maybe IsRealDay date → Maybe IsRealTime time
    → Maybe IsRealMoment (option_and_then (λ date. option_map (λ time. record { date = date; time = time }) time) date)
moment_within None time of_date of_time = tt
moment_within (Some date) None of_date of_time = tt
moment_within (Some date) (Some time) of_date of_time = (of_date, of_time)

moment_real : (text : List ℕ) → Maybe IsRealMoment (date_time_of text)
unfolding date_time_of
moment_real text =
    let date = date_of (take 10 text) in
    let time = time_of (drop 11 text) in
    if_so IsRealMoment _ (option_and_then (λ date. option_map (λ time. record { date = date; time = time }) time) date)
    (λ _. moment_within date time (day_real (take 10 text)) (time_real (drop 11 text)))

text_within : (datatype : DataType) (text : List ℕ) → MaybeWithin (value_of datatype text)
unfolding value_of
text_within types.Text text = tt
text_within types.Boolean text = any_value values.Boolean (boolean_of text) (λ _. tt)
text_within types.Integer text = value_of_it IsShort values.Integer (integer_of text) (λ z h. h) (integer_real text)
text_within types.Date text = value_of_it IsRealDay values.Date (date_of text) (λ date h. h) (day_real text)
text_within types.AnyUri text = tt
text_within types.YearMonth text = any_value values.YearMonth (duration_of text) (λ _. tt)
text_within types.Time text = value_of_it IsRealTime values.Time (time_of text) (λ time h. h) (time_real text)
text_within types.DateTime text = value_of_it IsRealMoment values.DateTime (date_time_of text) (λ moment h. h) (moment_real text)

flag_within : (boolean : Bool) (datatype : DataType) → MaybeWithin (boolean_as boolean datatype)
flag_within boolean types.Text = tt
flag_within boolean types.Boolean = tt
flag_within boolean types.Integer = tt
flag_within boolean types.Date = tt
flag_within boolean types.AnyUri = tt
flag_within boolean types.YearMonth = tt
flag_within boolean types.Time = tt
flag_within boolean types.DateTime = tt

number_within : (n : ℤ) (datatype : DataType) → is_within_64_bits n ≡ true → MaybeWithin (integer_as n datatype)
number_within n types.Text h = tt
number_within n types.Boolean h = tt
number_within n types.Integer h = h
number_within n types.Date h = tt
number_within n types.AnyUri h = tt
number_within n types.YearMonth h = tt
number_within n types.Time h = tt
number_within n types.DateTime h = tt

literal_within : (literal : RawLiteral) (datatype : DataType) → MaybeWithin (literal_as literal datatype)
unfolding literal_as
literal_within (literals.Text text) datatype = text_within datatype text
literal_within (literals.Boolean boolean) datatype = flag_within boolean datatype
literal_within (literals.Integer n) datatype = if_so IsReal (is_within_64_bits n) (integer_as n datatype) (number_within n datatype)

known_within : (o : Option Value) → MaybeWithin o → IsReal (known (values.Boolean false) faults.«Type» o).value
known_within None h = tt
known_within (Some v) h = h

typed_within : (literal : RawLiteral) (o : Option DataType) → MaybeWithin (option_and_then (literal_as literal) o)
typed_within literal None = tt
typed_within literal (Some datatype) = literal_within literal datatype

value_within : (v : RawValue) → IsReal (value_read v).value
unfolding value_read
value_within v = known_within _ (typed_within v.literal (type_of_value v.literal v.datatype))

-- ---- lists

-- so is every value of a list
abbrev AreWithin : List Value → Type 0
AreWithin = AllByRecursion IsReal

all_within : (vs ws : List Value) → AreWithin vs → AreWithin ws → AreWithin (vs ++ ws)
all_within [] ws h k = k
all_within (v ∷ vs) ws h k = (h.0, all_within vs ws h.1 k)

each_within : {A B : Type 0} (read : A → Read B) (held : B → List Value) → ((a : A) → AreWithin (held (read a).value)) → (parts : List A) → AreWithin (flat_map held (each_read read parts).value)
each_within read held good [] = tt
each_within read held good (a ∷ parts) = all_within (held (read a).value) _ (good a) (each_within read held good parts)

-- ---- expressions

abbrev ExpressionWithin : RawExpression → Type 0
ExpressionWithin e = AreWithin (expression_values (expression_read e).value)

arguments_within : (es : List ((e : RawExpression) × ExpressionWithin e)) → AreWithin (flat_map expression_values (each_read expression_read (map (λ e. e.0) es)).value)
arguments_within [] = tt
arguments_within (e ∷ es) = all_within (expression_values (expression_read e.0).value) _ e.1 (arguments_within es)

-- one level of what is read, by the values in one level
level : (y : RawExpression-F RawExpression) (x : Expression-F Expression) → (expression_step (map-RawExpression RawExpression (Read Expression) expression_read y)).value ≡ roll-Expression x
    → AreWithin (values_here (map-Expression Expression (List Value) expression_values x)) → ExpressionWithin (roll-RawExpression y)
level y x is h =
    subst (λ (r : Read Expression). AreWithin (expression_values r.value)) (sym (fold-roll-RawExpression (Read Expression) expression_step y))
    (subst (λ e. AreWithin (expression_values e)) (sym is) (subst AreWithin (sym (fold-roll-Expression (List Value) values_here x)) h))

expression_layer : (y : RawExpression-F ((e : RawExpression) × ExpressionWithin e)) → ExpressionWithin (roll-RawExpression (map-RawExpression ((e : RawExpression) × ExpressionWithin e) RawExpression (λ e. e.0) y))
unfolding roll-Expression denote.Hole.Carrier.roll
expression_layer (RawExpression-F.Value v) = level (RawExpression-F.Value v) (Expression-F.Value (value_read v).value) refl (value_within v, tt)
expression_layer (RawExpression-F.Designator d) = level (RawExpression-F.Designator d) (Expression-F.Designator (designator_read d).value) refl tt
expression_layer (RawExpression-F.Variable id) = level (RawExpression-F.Variable id) (Expression-F.Variable id) refl tt
expression_layer (RawExpression-F.Apply id es) =
    let read = (each_read expression_read (map (λ (e : (e : RawExpression) × ExpressionWithin e). e.0) es)).value in
    level (RawExpression-F.Apply id (map (λ e. e.0) es)) (Expression-F.Apply (function_read id).value read) refl
    (subst AreWithin (sym (flat_map-map (λ l. l) expression_values read)) (arguments_within es))
expression_layer (RawExpression-F.Function id) = level (RawExpression-F.Function id) (Expression-F.Function (function_read id).value) refl tt

expression_within : (e : RawExpression) → ExpressionWithin e
expression_within = ind-RawExpression ExpressionWithin (λ x y is. subst (λ z. ExpressionWithin (roll-RawExpression z)) is (expression_layer y))

condition_within : (c : Option RawExpression) → AreWithin (flat_map expression_values (option_to_list (maybe_read expression_read c).value))
condition_within None = tt
condition_within (Some e) = all_within (expression_values (expression_read e).value) [] (expression_within e) tt

-- ---- parts

match_within : (m : RawMatch) → AreWithin (match_values (match_read m).value)
unfolding match_read
match_within m = (value_within m.literal, tt)

all_of_within : (a : RawAllOf) → AreWithin (all_of_values (all_of_read a).value)
unfolding all_of_read
all_of_within a = each_within match_read match_values match_within a.matches

any_of_within : (a : RawAnyOf) → AreWithin (any_of_values (any_of_read a).value)
unfolding any_of_read
any_of_within a = each_within all_of_read all_of_values all_of_within a.all_of

target_within : (t : RawTarget) → AreWithin (target_values (target_read t).value)
unfolding target_read
target_within t = each_within any_of_read any_of_values any_of_within t.any_of

definition_within : (d : RawVariableDefinition) → AreWithin (definition_values (definition_read d).value)
unfolding definition_read
definition_within d = expression_within d.expression

assignment_within : (a : RawAssignment) → AreWithin (assignment_values (assignment_read a).value)
unfolding assignment_read
assignment_within a = expression_within a.expression

given_expression_within : (g : RawGivenExpression) → AreWithin (values_given (given_expression_read g).value)
unfolding given_expression_read
given_expression_within g = each_within assignment_read assignment_values assignment_within g.assignments

given_within : (g : RawGivenExpressions) → AreWithin (given_values (given_read g).value)
unfolding given_read
given_within g =
    all_within (flat_map values_given (each_read given_expression_read g.obligations).value) _
    (each_within given_expression_read values_given given_expression_within g.obligations)
    (each_within given_expression_read values_given given_expression_within g.advice)

rule_within : (r : RawRule) → AreWithin (rule_values (rule_read r).value)
unfolding rule_read
rule_within r =
    all_within (target_values (target_read r.target).value) _ (target_within r.target)
    (all_within (flat_map expression_values (option_to_list (maybe_read expression_read r.condition).value)) _ (condition_within r.condition) (given_within r.given))

policy_within : (p : RawPolicy) → AreWithin (policy_values (policy_read p).value)
unfolding policy_read
policy_within p =
    all_within (target_values (target_read p.target).value) _ (target_within p.target)
    (all_within (flat_map definition_values (each_read definition_read p.variables).value) _ (each_within definition_read definition_values definition_within p.variables)
    (all_within (flat_map rule_values (each_read rule_read p.rules).value) _ (each_within rule_read rule_values rule_within p.rules) (given_within p.given)))

-- ---- children and sets

-- the values in a set, by its children
abbrev set_values : PolicySet → List Value
set_values s = target_values s.target ++ (flat_map child_values s.children ++ given_values s.given)

values_of_policy : (p : Policy) → child_values (children.Policy p) ≡ policy_values p
unfolding Rattle.ent_policy.specs.declared.document.Child.TheViews.roll-Child denote.Hole.Carrier.roll
values_of_policy p = fold-roll-Child (List Value) (List Value) values_in_level values_in_set (Child-F.Policy p)

values_of_set : (s : PolicySet) → child_values (children.Set s) ≡ set_values s
unfolding Rattle.ent_policy.specs.declared.document.Child.TheViews.roll-Child denote.Hole.Carrier.roll
values_of_set s =
    fold-roll-Child (List Value) (List Value) values_in_level values_in_set (Child-F.Set s) ∙ fold_out-PolicySet (List Value) (List Value) values_in_level values_in_set s
    ∙ ap (λ l. target_values s.target ++ (l ++ given_values s.given)) (flat_map-map (λ l. l) child_values s.children)

values_of_reference : (r : Reference) → child_values (children.Reference r) ≡ []
unfolding Rattle.ent_policy.specs.declared.document.Child.TheViews.roll-Child denote.Hole.Carrier.roll
values_of_reference r = fold-roll-Child (List Value) (List Value) values_in_level values_in_set (Child-F.Reference r)

abbrev ChildWithin : RawChild → Type 0
ChildWithin c = AreWithin (child_values (child_read c).value)

abbrev SetWithin : RawPolicySet → Type 0
SetWithin s = AreWithin (set_values (set_read s).value)

children_within : (cs : List ((c : RawChild) × ChildWithin c)) → AreWithin (flat_map child_values (each_read child_read (map (λ c. c.0) cs)).value)
children_within [] = tt
children_within (c ∷ cs) = all_within (child_values (child_read c.0).value) _ c.1 (children_within cs)

layer : (y : RawChild-F ((c : RawChild) × ChildWithin c) ((s : RawPolicySet) × SetWithin s)) → ChildWithin (roll-RawChild (map-RawChild ((c : RawChild) × ChildWithin c) ((s : RawPolicySet) × SetWithin s) RawChild RawPolicySet (λ e. e.0) (λ e. e.0) y))
unfolding Rattle.ent_policy.specs.declared.raw.RawChild.TheViews.roll-RawChild denote.Hole.Carrier.roll
layer (RawChild-F.Policy p) =
    subst (λ (r : Read Child). AreWithin (child_values r.value)) (sym (fold-roll-RawChild (Read Child) (Read PolicySet) child_step set_step (RawChild-F.Policy p)))
    (subst AreWithin (sym (values_of_policy (policy_read p).value)) (policy_within p))
layer (RawChild-F.Set s) = subst (λ (r : Read Child). AreWithin (child_values r.value)) (sym (set_is_read s.0)) (subst AreWithin (sym (values_of_set (set_read s.0).value)) s.1)
layer (RawChild-F.Reference r) =
    subst (λ (r : Read Child). AreWithin (child_values r.value)) (sym (fold-roll-RawChild (Read Child) (Read PolicySet) child_step set_step (RawChild-F.Reference r)))
    (subst AreWithin (sym (values_of_reference (reference_read r).value)) tt)

set_layer : (y : RawPolicySet-F ((c : RawChild) × ChildWithin c) ((s : RawPolicySet) × SetWithin s)) → SetWithin (roll-RawPolicySet (map-RawPolicySet ((c : RawChild) × ChildWithin c) ((s : RawPolicySet) × SetWithin s) RawChild RawPolicySet (λ e. e.0) (λ e. e.0) y))
unfolding denote.Hole.Carrier.roll
set_layer y = all_within (target_values (target_read y.target).value) _ (target_within y.target) (all_within (flat_map child_values (each_read child_read (map (λ c. c.0) y.children)).value) _ (children_within y.children) (given_within y.given))

set_within : (s : RawPolicySet) → SetWithin s
set_within = ind-RawPolicySet ChildWithin SetWithin (λ x y is. subst (λ z. ChildWithin (roll-RawChild z)) is (layer y)) (λ x y is. subst (λ z. SetWithin (roll-RawPolicySet z)) is (set_layer y))

-- ---- documents

read_within : (d : RawDocument) → HoldsWithin (document_read d).value
read_within (raw.Policy p) = subst AreWithin (sym (values_of_policy (policy_read p).value)) (policy_within p)
read_within (raw.Set s) = subst AreWithin (sym (values_of_set (set_read s).value)) (set_within s)

-- so is every value of what the checker passes
pub passed_within : (t : Tree) → IsChecked t → HoldsWithin t
passed_within t c = subst HoldsWithin (passes c.0 t c.1).1 (read_within c.0)
