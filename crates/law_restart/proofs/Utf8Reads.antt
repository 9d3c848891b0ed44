-- Parts of documents that are read of UTF-8 JSON are written as such: values, designators, expressions and targets.
use Rattle.std.proofs.Common.{◌≡◌, ℕ, ℤ, zero, suc, List, [], ◌∷◌, map, Bool, true, false, Option, Some, None, Result, Ok, Err, codes, refl, sym, ap, subst, ◌∙◌, IsUtf8}
use Rattle.std.specs.Prelude.{if◌then◌else◌, option_and_then, option_map}
use Rattle.std.specs.List.{AllByRecursion}
use Rattle.json.proofs.Printed.Utf8.{IsUtf8-are_ascii}
use Rattle.serde_json.specs.Data as json
use Rattle.serde_json.specs.Data.{Data, Items, depth}
use Rattle.serde_json.specs.Find.{as_i64, get}
use Rattle.serde_json.specs.View.{items_of}
use Rattle.ent_values.specs.Types.{datatype_of, uri_of}
use Rattle.ent_values.specs.declared.datatype.DataType.{DataType}
use Rattle.ent_values.specs.declared.value.Value.{Value}
use Rattle.ent_values.specs.declared.value.Value.TheVariants as values
use Rattle.ent_functions.proofs.Naming.{ids_read_back}
use Rattle.ent_functions.specs.Identifiers.{function_of, id_of, operation_of, prefix_of, type_word_of}
use Rattle.ent_functions.specs.declared.function.Function.TheVariants as functions
use Rattle.ent_policy.proofs.Wholes.{ReadOf}
use Rattle.ent_policy.proofs.WhatIsRead.{apply_is_read}
use Rattle.ent_policy.specs.Reading as reading
use Rattle.ent_policy.specs.Reading.{all_of_read, any_of_read, designator_read, each_read, expression_read, function_read, known, literal_as, match_read, target_read, type_of_value, type_read, value_read, written_type}
use Rattle.ent_policy.specs.declared.expression.Expression.{Expression}
use Rattle.ent_policy.specs.declared.expression.Expression.TheFolds.{fold-roll-Expression, map-Expression}
use Rattle.ent_policy.specs.declared.expression.Expression.TheOpen.{Expression-F}
use Rattle.ent_policy.specs.declared.expression.Expression.TheViews.{roll-Expression}
use Rattle.ent_policy.specs.declared.fault.DocFault.{DocFault}
use Rattle.ent_policy.specs.declared.fault.DocFault.TheVariants as faults
use Rattle.ent_policy.specs.declared.raw.RawAllOf.{RawAllOf}
use Rattle.ent_policy.specs.declared.raw.RawAnyOf.{RawAnyOf}
use Rattle.ent_policy.specs.declared.raw.RawDesignator.{RawDesignator}
use Rattle.ent_policy.specs.declared.raw.RawExpression.{RawExpression}
use Rattle.ent_policy.specs.declared.raw.RawExpression.TheFolds.{fold-roll-RawExpression, map-RawExpression}
use Rattle.ent_policy.specs.declared.raw.RawExpression.TheOpen.{RawExpression-F}
use Rattle.ent_policy.specs.declared.raw.RawExpression.TheVariants as raw
use Rattle.ent_policy.specs.declared.raw.RawExpression.TheViews.{roll-RawExpression}
use Rattle.ent_policy.specs.declared.raw.RawLiteral.TheVariants as literals
use Rattle.ent_policy.specs.declared.raw.RawMatch.{RawMatch}
use Rattle.ent_policy.specs.declared.raw.RawTarget.{RawTarget}
use Rattle.ent_policy.specs.declared.raw.RawValue.{RawValue}
use Rattle.ent_json.specs.Members.{filled_list, only_member}
use Rattle.ent_json.specs.Objects.{filled_list_at, flag_at, list_at, one_member, text_at}
use Rattle.ent_polform.specs.Expressions.{apply_by, designator_of, expression_by, expression_named, expression_of, literal_of, name_of, value_of}
use Rattle.ent_polform.specs.Objects.{◌>>=◌, each_by, list_by}
use Rattle.ent_polform.specs.Reading.{formed, maybe, part, text_of, within}
use Rattle.ent_polform.specs.Targets.{match_of, one_all_of, one_any_of, target_of, target_or_empty}
use Rattle.ent_polform.specs.Written.{all_of_written, any_of_written, apply_written, designator_written, expression_step, expression_written, literal_written, match_written, target_written, value_written}
use Rattle.ent_polform.proofs.WrittenLemmas.{apply_is_written}
use Rattle.law_restart.proofs.Utf8Data.{AreUtf8Items, IfThere, IsUtf8Data, filled_list_utf8, get_utf8, list_utf8, one_utf8, str_utf8, text_utf8}
use Rattle.law_restart.proofs.Utf8Values.{IsUtf8Literal, IsUtf8Value, literal_utf8, uri_utf8, value_written_utf8}
use Rattle.law_restart.proofs.Utf8Written.{filled_written, list_written, maybe_string, object_utf8, only_utf8}

-- ---- steps of a reading

abbrev IfRead : {A : Type 0} → (A → Type 0) → Result A DocFault → Type 0
IfRead P (Ok x) = P x
IfRead P (Err fault) = Unit {0}

-- what is read, if anything is, is so
pub record Reads {A : Type 0} (P : A → Type 0) (r : Result A DocFault) : Type 0 where
  pub is : IfRead P r

pub reads : {A : Type 0} (P : A → Type 0) (r : Result A DocFault) (x : A) → Reads P r → r ≡ Ok x → P x
reads P (Ok y) x h e = let same : y ≡ x = cc in subst P same h.is
reads P (Err fault) x h e = absurd cc

pub then_reads : {A B : Type 0} {Q : B → Type 0} (P : A → Type 0) (r : Result A DocFault) (f : A → Result B DocFault) → Reads P r → ((x : A) → P x → Reads Q (f x)) → Reads Q (r >>= f)
then_reads P (Ok x) f h more = more x h.is
then_reads P (Err fault) f h more = record { is = tt }

pub part_then : {A B : Type 0} {Q : B → Type 0} (P : A → Type 0) (o : Option A) (f : A → Result B DocFault) → IfThere P o → ((x : A) → P x → Reads Q (f x)) → Reads Q (part o >>= f)
part_then P (Some x) f h more = more x h
part_then P None f h more = record { is = tt }

-- what is read whatever was read before
pub any_then : {A B : Type 0} {Q : B → Type 0} (r : Result A DocFault) (f : A → Result B DocFault) → ((x : A) → Reads Q (f x)) → Reads Q (r >>= f)
any_then (Ok x) f more = more x
any_then (Err fault) f more = record { is = tt }

pub formed_reads : {A : Type 0} {P : A → Type 0} (b : Bool) (r : Result A DocFault) → Reads P r → Reads P (formed b r)
formed_reads true r h = h
formed_reads false r h = record { is = tt }

pub either_reads : {A : Type 0} {P : A → Type 0} (b : Bool) (r other : Result A DocFault) → Reads P r → Reads P other → Reads P (if b then r else other)
either_reads true r other h g = h
either_reads false r other h g = g

pub no_form : {A : Type 0} {P : A → Type 0} → Reads P (Err faults.Form)
no_form = record { is = tt }

pub maybe_reads : {A : Type 0} (P : A → Type 0) (f : Data → Result A DocFault) (o : Option Data) → ((d : Data) → IsUtf8Data d → Reads P (f d)) → IfThere IsUtf8Data o → Reads (IfThere P) (maybe f o)
maybe_reads P f None good h = record { is = tt }
maybe_reads P f (Some d) good h = then_reads P (f d) _ (good d h) (λ x is. record { is = is })

pub text_reads : (d : Data) → IsUtf8Data d → Reads IsUtf8 (text_of d)
text_reads d h = by (Rattle.serde_json.specs.Find.as_str d) (str_utf8 d h)
  where
    by : (o : Option (List ℕ)) → IfThere IsUtf8 o → Reads IsUtf8 (part o)
    by None g = record { is = tt }
    by (Some s) g = record { is = g }

each_reads : {A : Type 0} (P : A → Type 0) (f : Data → Result A DocFault) (ds : Items) → ((d : Data) → IsUtf8Data d → Reads P (f d)) → AreUtf8Items ds → Reads (AllByRecursion P) (each_by f ds)
each_reads P f json.no_items good h = record { is = tt }
each_reads P f (json.item d ds) good h =
    then_reads P (f d) _ (good d h.0) (λ x is. then_reads (AllByRecursion P) (each_by f ds) _ (each_reads P f ds good h.1) (λ xs are. record { is = (is, are) }))

pub list_reads : {A : Type 0} (P : A → Type 0) (f : Data → Result A DocFault) (o : Option Items) → ((d : Data) → IsUtf8Data d → Reads P (f d)) → IfThere AreUtf8Items o → Reads (AllByRecursion P) (list_by faults.Form f o)
list_reads P f None good h = record { is = tt }
list_reads P f (Some ds) good h = each_reads P f ds good h

-- what is written of each part of a list
pub each_written : {A B : Type 0} (read : A → ReadOf B) (write : B → Data) (parts : List A) → AllByRecursion (λ a. IsUtf8Data (write (read a).value)) parts → AllByRecursion IsUtf8Data (map write (each_read read parts).value)
each_written read write [] h = tt
each_written read write (a ∷ parts) h = (h.0, each_written read write parts h.1)

-- what is known of what was read, or of what stands in for it
pub known_is : {A : Type 0} (P : A → Type 0) (stand_in : A) (fault : DocFault) (o : Option A) → P stand_in → ((x : A) → o ≡ Some x → P x) → P (known stand_in fault o).value
known_is P stand_in fault None h good = h
known_is P stand_in fault (Some x) h good = good x refl

-- ---- values

abbrev pub Utf8Value : RawValue → Type 0
Utf8Value v = IsUtf8Data (literal_written (value_read v).value)

literal_written_utf8 : (v : Value) → IsUtf8Value v → IsUtf8Data (literal_written v)
unfolding literal_written
literal_written_utf8 v h =
    object_utf8 ((codes "DataType", Some (json.string (uri_of (datatype_of v)))) ∷ (codes "Value", Some (value_written v)) ∷ []) ((refl, uri_utf8 (datatype_of v)), ((refl, value_written_utf8 v h), tt))

raw_value : (v : RawValue) → IsUtf8Literal v.literal → Utf8Value v
unfolding value_read
raw_value v h = literal_written_utf8 _ (known_is IsUtf8Value (values.Boolean false) faults.«Type» (option_and_then (literal_as v.literal) (type_of_value v.literal v.datatype)) tt (λ x is. found (type_of_value v.literal v.datatype) x is))
  where
    there : (o : Option Value) (x : Value) → IfThere IsUtf8Value o → o ≡ Some x → IsUtf8Value x
    there None x g e = absurd cc
    there (Some y) x g e = let same : y ≡ x = cc in subst IsUtf8Value same g

    found : (o : Option DataType) (x : Value) → option_and_then (literal_as v.literal) o ≡ Some x → IsUtf8Value x
    found None x e = absurd cc
    found (Some datatype) x e = there (literal_as v.literal datatype) x (literal_utf8 v.literal datatype h) e

literal_reads : (d : Data) → IsUtf8Data d → Reads IsUtf8Literal (literal_of d)
literal_reads json.null h = record { is = tt }
literal_reads (json.boolean b) h = record { is = tt }
literal_reads (json.number n) h = by (as_i64 n)
  where
    by : (o : Option ℤ) → Reads IsUtf8Literal (part (option_map literals.Integer o))
    by None = record { is = tt }
    by (Some z) = record { is = tt }
literal_reads (json.string s) h = record { is = h }
literal_reads (json.array ds) h = record { is = tt }
literal_reads (json.object ms) h = record { is = tt }

pub value_reads : (d : Data) → IsUtf8Data d → Reads Utf8Value (value_of d)
unfolding value_of
value_reads d h =
    formed_reads _ _ (any_then (maybe text_of (get (codes "DataType") d)) _ (λ datatype.
    then_reads IsUtf8Literal (part (get (codes "Value") d) >>= literal_of) _ (part_then IsUtf8Data (get (codes "Value") d) literal_of (get_utf8 (codes "Value") d h) literal_reads)
    (λ literal is. record { is = raw_value (record { datatype = datatype; literal = literal }) is })))

-- ---- designators

abbrev pub Utf8Designator : RawDesignator → Type 0
Utf8Designator d = IsUtf8Data (designator_written (designator_read d).value)

raw_designator : (d : RawDesignator) → IsUtf8 d.category → IsUtf8 d.attribute → IfThere IsUtf8 d.issuer → Utf8Designator d
unfolding designator_read designator_written
raw_designator d category attribute issuer =
    object_utf8 ((codes "AttributeId", Some (json.string d.attribute)) ∷ (codes "Category", Some (json.string d.category)) ∷ (codes "DataType", Some (json.string (uri_of (type_read d.datatype).value)))
    ∷ (codes "Issuer", option_map json.string d.issuer) ∷ (codes "MustBePresent", Some (json.boolean d.must_be_present)) ∷ [])
    ((refl, attribute), ((refl, category), ((refl, uri_utf8 (type_read d.datatype).value), ((refl, maybe_string d.issuer issuer), ((refl, tt), tt)))))

pub designator_reads : (d : Data) → IsUtf8Data d → Reads Utf8Designator (designator_of d)
unfolding designator_of
designator_reads d h =
    formed_reads _ _ (part_then IsUtf8 (text_at (codes "Category") d) _ (text_utf8 (codes "Category") d h) (λ category a.
    part_then IsUtf8 (text_at (codes "AttributeId") d) _ (text_utf8 (codes "AttributeId") d h) (λ attribute b.
    any_then (part (text_at (codes "DataType") d)) _ (λ datatype.
    then_reads (IfThere IsUtf8) (maybe text_of (get (codes "Issuer") d)) _ (maybe_reads IsUtf8 text_of (get (codes "Issuer") d) text_reads (get_utf8 (codes "Issuer") d h)) (λ issuer c.
    any_then (part (flag_at (codes "MustBePresent") d)) _ (λ must_be_present.
    record { is = raw_designator (record { category = category; attribute = attribute; datatype = datatype; issuer = issuer; must_be_present = must_be_present }) a b c }))))))

-- ---- functions

add_utf8 : IsUtf8 (id_of functions.Add)
unfolding id_of operation_of prefix_of type_word_of
add_utf8 = IsUtf8-are_ascii _ refl

-- the name of the function that is read of a text
pub function_utf8 : (text : List ℕ) → IsUtf8 text → IsUtf8 (id_of (function_read text).value)
function_utf8 text u =
    known_is (λ f. IsUtf8 (id_of f)) functions.Add faults.Function (function_of text) add_utf8 (λ f is. subst IsUtf8 ((ids_read_back text f).0 is) u)

-- ---- expressions

abbrev pub Utf8Expression : RawExpression → Type 0
Utf8Expression e = IsUtf8Data (expression_written (expression_read e).value)

read_is : (y : RawExpression-F RawExpression) (x : Expression-F Expression) → (expression_read (roll-RawExpression y)).value ≡ roll-Expression x
    → IsUtf8Data (expression_step (map-Expression Expression Data expression_written x)) → Utf8Expression (roll-RawExpression y)
read_is y x same h = subst IsUtf8Data (sym (ap expression_written same ∙ fold-roll-Expression Data expression_step x)) h

raw_is : (y : RawExpression-F RawExpression) → expression_read (roll-RawExpression y) ≡ reading.expression_step (map-RawExpression RawExpression (ReadOf Expression) expression_read y)
raw_is = fold-roll-RawExpression (ReadOf Expression) reading.expression_step

value_expression : (v : RawValue) → Utf8Value v → Utf8Expression (raw.Value v)
unfolding roll-RawExpression roll-Expression denote.Hole.Carrier.roll
value_expression v h =
    read_is (RawExpression-F.Value v) (Expression-F.Value (value_read v).value) (ap (λ r. r.value) (raw_is (RawExpression-F.Value v)))
    (only_utf8 (codes "AttributeValue") (literal_written (value_read v).value) refl h)

designator_expression : (d : RawDesignator) → Utf8Designator d → Utf8Expression (raw.Designator d)
unfolding roll-RawExpression roll-Expression denote.Hole.Carrier.roll
designator_expression d h =
    read_is (RawExpression-F.Designator d) (Expression-F.Designator (designator_read d).value) (ap (λ r. r.value) (raw_is (RawExpression-F.Designator d)))
    (only_utf8 (codes "AttributeDesignator") (designator_written (designator_read d).value) refl h)

variable_expression : (id : List ℕ) → IsUtf8 id → Utf8Expression (raw.Variable id)
unfolding roll-RawExpression roll-Expression denote.Hole.Carrier.roll
variable_expression id h =
    read_is (RawExpression-F.Variable id) (Expression-F.Variable id) (ap (λ r. r.value) (raw_is (RawExpression-F.Variable id)))
    (only_utf8 (codes "VariableReference") (only_member (codes "VariableId") (json.string id)) refl (only_utf8 (codes "VariableId") (json.string id) refl h))

function_expression : (id : List ℕ) → IsUtf8 id → Utf8Expression (raw.Function id)
unfolding roll-RawExpression roll-Expression denote.Hole.Carrier.roll
function_expression id h =
    read_is (RawExpression-F.Function id) (Expression-F.Function (function_read id).value) (ap (λ r. r.value) (raw_is (RawExpression-F.Function id)))
    (only_utf8 (codes "Function") (only_member (codes "FunctionId") (json.string (id_of (function_read id).value))) refl
    (only_utf8 (codes "FunctionId") (json.string (id_of (function_read id).value)) refl (function_utf8 id h)))

apply_expression : (id : List ℕ) (arguments : List RawExpression) → IsUtf8 id → AllByRecursion Utf8Expression arguments → Utf8Expression (raw.Apply id arguments)
apply_expression id arguments h all =
    let same : expression_written (expression_read (raw.Apply id arguments)).value ≡ only_member (codes "Apply") (apply_written (function_read id).value (map expression_written (each_read expression_read arguments).value)) =
    ap (λ r. expression_written r.value) (apply_is_read id arguments) ∙ apply_is_written (function_read id).value (each_read expression_read arguments).value in
    let ds = map expression_written (each_read expression_read arguments).value in
    subst IsUtf8Data (sym same) (only_utf8 (codes "Apply") (apply_written (function_read id).value ds) refl
    (object_utf8 ((codes "Arguments", filled_list ds) ∷ (codes "FunctionId", Some (json.string (id_of (function_read id).value))) ∷ [])
    ((refl, filled_written ds (each_written expression_read expression_written arguments all)), ((refl, function_utf8 id h), tt))))

name_reads : (key : List ℕ) (d : Data) → IsUtf8Data d → Reads IsUtf8 (name_of key d)
unfolding name_of
name_reads key d h = formed_reads _ _ (by (text_at key d) (text_utf8 key d h))
  where
    by : (o : Option (List ℕ)) → IfThere IsUtf8 o → Reads IsUtf8 (part o)
    by None g = record { is = tt }
    by (Some s) g = record { is = g }

apply_reads : (f : Data → Result RawExpression DocFault) → ((d : Data) → IsUtf8Data d → Reads Utf8Expression (f d)) → (d : Data) → IsUtf8Data d → Reads Utf8Expression (apply_by f d)
unfolding apply_by
apply_reads f good d h =
    formed_reads _ _ (part_then IsUtf8 (text_at (codes "FunctionId") d) _ (text_utf8 (codes "FunctionId") d h) (λ id a.
    then_reads (AllByRecursion Utf8Expression) (list_by faults.Form f (list_at (codes "Arguments") d)) _ (list_reads Utf8Expression f (list_at (codes "Arguments") d) good (list_utf8 (codes "Arguments") d h)) (λ arguments all.
    record { is = apply_expression id arguments a all })))

named_reads : (f : Data → Result RawExpression DocFault) → ((d : Data) → IsUtf8Data d → Reads Utf8Expression (f d)) → (key : List ℕ) (d : Data) → IsUtf8Data d → Reads Utf8Expression (expression_named f key d)
unfolding expression_named
named_reads f good key d h =
    either_reads _ _ _ (then_reads Utf8Value (value_of d) _ (value_reads d h) (λ v is. record { is = value_expression v is }))
    (either_reads _ _ _ (then_reads Utf8Designator (designator_of d) _ (designator_reads d h) (λ a is. record { is = designator_expression a is }))
    (either_reads _ _ _ (then_reads IsUtf8 (name_of (codes "VariableId") d) _ (name_reads (codes "VariableId") d h) (λ id is. record { is = variable_expression id is }))
    (either_reads _ _ _ (apply_reads f good d h)
    (either_reads _ _ _ (then_reads IsUtf8 (name_of (codes "FunctionId") d) _ (name_reads (codes "FunctionId") d h) (λ id is. record { is = function_expression id is }))
    no_form))))

levels_read : (n : ℕ) (d : Data) → IsUtf8Data d → Reads Utf8Expression (within expression_by n d)
unfolding within
levels_read zero d h = no_form
levels_read (suc n) d h =
    part_then (λ m. IsUtf8Data m.1) (one_member d) _ (one_utf8 d h) (λ m is. named_reads (within expression_by n) (λ e g. levels_read n e g) m.0 m.1 is)

pub expression_reads : (d : Data) → IsUtf8Data d → Reads Utf8Expression (expression_of d)
unfolding expression_of
expression_reads d h = levels_read (suc (depth d)) d h

-- ---- targets

abbrev Utf8Match : RawMatch → Type 0
Utf8Match m = IsUtf8Data (match_written (match_read m).value)

raw_match : (m : RawMatch) → IsUtf8 m.function → Utf8Value m.literal → Utf8Designator m.designator → Utf8Match m
unfolding match_read match_written
raw_match m function literal designator =
    object_utf8 ((codes "AttributeDesignator", Some (designator_written (designator_read m.designator).value)) ∷ (codes "AttributeValue", Some (literal_written (value_read m.literal).value))
    ∷ (codes "MatchId", Some (json.string (id_of (function_read m.function).value))) ∷ [])
    ((refl, designator), ((refl, literal), ((refl, function_utf8 m.function function), tt)))

match_reads : (d : Data) → IsUtf8Data d → Reads Utf8Match (match_of d)
unfolding match_of
match_reads d h =
    formed_reads _ _ (part_then IsUtf8 (text_at (codes "MatchId") d) _ (text_utf8 (codes "MatchId") d h) (λ function a.
    then_reads Utf8Value (part (get (codes "AttributeValue") d) >>= value_of) _ (part_then IsUtf8Data (get (codes "AttributeValue") d) value_of (get_utf8 (codes "AttributeValue") d h) value_reads) (λ literal b.
    then_reads Utf8Designator (part (get (codes "AttributeDesignator") d) >>= designator_of) _ (part_then IsUtf8Data (get (codes "AttributeDesignator") d) designator_of (get_utf8 (codes "AttributeDesignator") d h) designator_reads) (λ designator c.
    record { is = raw_match (record { function = function; literal = literal; designator = designator }) a b c }))))

abbrev Utf8AllOf : RawAllOf → Type 0
Utf8AllOf a = IsUtf8Data (all_of_written (all_of_read a).value)

raw_all_of : (ms : List RawMatch) → AllByRecursion Utf8Match ms → Utf8AllOf (record { matches = ms })
unfolding all_of_read all_of_written
raw_all_of ms all = only_utf8 (codes "Match") (json.array (items_of (map match_written (each_read match_read ms).value))) refl (list_written (map match_written (each_read match_read ms).value) (each_written match_read match_written ms all))

all_of_reads : (d : Data) → IsUtf8Data d → Reads Utf8AllOf (one_all_of d)
unfolding one_all_of
all_of_reads d h =
    formed_reads _ _ (then_reads (AllByRecursion Utf8Match) (list_by faults.Form match_of (filled_list_at (codes "Match") d)) _ (list_reads Utf8Match match_of (filled_list_at (codes "Match") d) match_reads (filled_list_utf8 (codes "Match") d h)) (λ ms all.
    record { is = raw_all_of ms all }))

abbrev Utf8AnyOf : RawAnyOf → Type 0
Utf8AnyOf a = IsUtf8Data (any_of_written (any_of_read a).value)

raw_any_of : (parts : List RawAllOf) → AllByRecursion Utf8AllOf parts → Utf8AnyOf (record { all_of = parts })
unfolding any_of_read any_of_written
raw_any_of parts all = only_utf8 (codes "AllOf") (json.array (items_of (map all_of_written (each_read all_of_read parts).value))) refl (list_written (map all_of_written (each_read all_of_read parts).value) (each_written all_of_read all_of_written parts all))

any_of_reads : (d : Data) → IsUtf8Data d → Reads Utf8AnyOf (one_any_of d)
unfolding one_any_of
any_of_reads d h =
    formed_reads _ _ (then_reads (AllByRecursion Utf8AllOf) (list_by faults.Form one_all_of (filled_list_at (codes "AllOf") d)) _ (list_reads Utf8AllOf one_all_of (filled_list_at (codes "AllOf") d) all_of_reads (filled_list_utf8 (codes "AllOf") d h)) (λ parts all.
    record { is = raw_any_of parts all }))

abbrev pub Utf8Target : RawTarget → Type 0
Utf8Target t = IfThere IsUtf8Data (target_written (target_read t).value)

raw_target : (parts : List RawAnyOf) → AllByRecursion Utf8AnyOf parts → Utf8Target (record { any_of = parts })
unfolding target_read target_written
raw_target parts all = by (filled_list (map any_of_written (each_read any_of_read parts).value)) (filled_written (map any_of_written (each_read any_of_read parts).value) (each_written any_of_read any_of_written parts all))
  where
    by : (o : Option Data) → IfThere IsUtf8Data o → IfThere IsUtf8Data (option_map (only_member (codes "AnyOf")) o)
    by None h = tt
    by (Some d) h = only_utf8 (codes "AnyOf") d refl h

target_reads : (d : Data) → IsUtf8Data d → Reads Utf8Target (target_of d)
unfolding target_of
target_reads d h =
    formed_reads _ _ (then_reads (AllByRecursion Utf8AnyOf) (list_by faults.Form one_any_of (list_at (codes "AnyOf") d)) _ (list_reads Utf8AnyOf one_any_of (list_at (codes "AnyOf") d) any_of_reads (list_utf8 (codes "AnyOf") d h)) (λ parts all.
    record { is = raw_target parts all }))

pub maybe_target_reads : (o : Option Data) → IfThere IsUtf8Data o → Reads Utf8Target (target_or_empty o)
maybe_target_reads None h = record { is = raw_target [] tt }
maybe_target_reads (Some d) h = target_reads d h
