-- Values and designators that are written read back.
use Rattle.std.proofs.Common.{◌≡◌, ◌<◌, ◌/◌, ℕ, ℤ, pos, negsuc, List, [], ◌∷◌, Bool, Option, Some, None, Result, Ok, Err, IfOk, refl, ap, subst, sym, ◌∙◌}
use Rattle.std.specs.Prelude.{false, option_and_then, option_map, unsigned_abs}
use Rattle.serde_json.specs.Data.{Data}
use Rattle.ent_values.proofs.ReadBack.{read_back, readable}
use Rattle.ent_values.specs.ReadBack.{HasFewYears, IsReadable, IsReal}
use Rattle.ent_values.specs.Reading as texts
use Rattle.ent_values.specs.Types.{datatype_of, short_name_of, type_of, uri_of}
use Rattle.ent_values.specs.Writing.{duration_text, text_of}
use Rattle.ent_values.specs.declared.datatype.DataType.{DataType}
use Rattle.ent_values.specs.declared.datatype.DataType.TheVariants as types
use Rattle.ent_values.specs.declared.value.Value.{Value}
use Rattle.ent_values.specs.declared.value.Value.TheVariants as values
use Rattle.ent_policy.specs.Reading.{designator_read, done, known, literal_as, value_read}
use Rattle.ent_policy.specs.declared.document.Designator.{Designator}
use Rattle.ent_policy.specs.declared.fault.DocFault.TheVariants as faults
use Rattle.ent_policy.specs.declared.raw.RawDesignator.{RawDesignator}
use Rattle.ent_policy.specs.declared.raw.RawLiteral.{RawLiteral}
use Rattle.ent_policy.specs.declared.raw.RawLiteral.TheVariants as literals
use Rattle.ent_policy.specs.declared.raw.RawValue.{RawValue}
use Rattle.ent_polform.specs.Expressions.{designator_of, value_of}
use Rattle.ent_polform.specs.ReadBack.{ValueReadsBack, ValuesReadBack}
use Rattle.ent_polform.specs.Values.{value_in}
use Rattle.ent_polform.specs.Written.{designator_written, literal_written, value_written}
use Rattle.ent_polform.proofs.Back.{Back}
use Rattle.ent_polform.proofs.BackYears.{few_years}

pub value_in_back : (value : Value) → IsReadable value → value_in (datatype_of value) (value_written value) ≡ Some value
unfolding value_in value_written
value_in_back (values.Text text) h = read_back (values.Text text) h
value_in_back (values.Boolean boolean) h = refl
value_in_back (values.Integer (pos n)) h = rw h refl
value_in_back (values.Integer (negsuc n)) h = refl
value_in_back (values.Date date) h = read_back (values.Date date) h
value_in_back (values.AnyUri uri) h = read_back (values.AnyUri uri) h
value_in_back (values.YearMonth months) h = read_back (values.YearMonth months) h
value_in_back (values.Time time) h = read_back (values.Time time) h
value_in_back (values.DateTime moment) h = read_back (values.DateTime moment) h

pub values_back : ValuesReadBack
values_back value real few = value_in_back value (readable value real few)

-- a text that is read as a duration is one of few years
text_few : (months : ℤ) (o : Option Value) → texts.value_of types.YearMonth (text_of (values.YearMonth months)) ≡ o → (v : Value) → o ≡ Some v → unsigned_abs months / 12 < 1000000000
unfolding texts.value_of text_of
text_few months o is v some = by (texts.duration_of (duration_text months)) refl (is ∙ some)
  where
    by : (d : Option ℤ) → texts.duration_of (duration_text months) ≡ d → option_map values.YearMonth d ≡ Some v → unsigned_abs months / 12 < 1000000000
    by (Some read) e h = few_years months read e
    by None e h = absurd cc

-- a value whose writing is read as any value has few years
pub value_in_few : (value v : Value) → value_in (datatype_of value) (value_written value) ≡ Some v → HasFewYears value
unfolding value_in value_written
value_in_few (values.Text text) v h = tt
value_in_few (values.Boolean boolean) v h = tt
value_in_few (values.Integer integer) v h = tt
value_in_few (values.Date date) v h = tt
value_in_few (values.AnyUri uri) v h = tt
value_in_few (values.YearMonth months) v h = text_few months _ refl v h
value_in_few (values.Time time) v h = tt
value_in_few (values.DateTime moment) v h = tt

-- what was written of a value
pub value_reads_back : {A E : Type 0} (view : A → Data) (r : Result A E) (value : Value) → IsReal value → IfOk r (λ v. view v ≡ value_written value) → IfOk r (λ v. ValueReadsBack value (view v))
value_reads_back view (Ok v) value real is = subst (ValueReadsBack value) (sym is) (values_back value real)
value_reads_back view (Err e) value real is = tt

-- ---- as read, before the check

abbrev raw_literal : Value → RawLiteral
raw_literal (values.Text text) = literals.Text (text_of (values.Text text))
raw_literal (values.Boolean boolean) = literals.Boolean boolean
raw_literal (values.Integer integer) = literals.Integer integer
raw_literal (values.Date date) = literals.Text (text_of (values.Date date))
raw_literal (values.AnyUri uri) = literals.Text (text_of (values.AnyUri uri))
raw_literal (values.YearMonth months) = literals.Text (text_of (values.YearMonth months))
raw_literal (values.Time time) = literals.Text (text_of (values.Time time))
raw_literal (values.DateTime moment) = literals.Text (text_of (values.DateTime moment))

abbrev raw_value : Value → RawValue
raw_value value = record { datatype = Some (uri_of (datatype_of value)); literal = raw_literal value }

abbrev raw_designator : Designator → RawDesignator
raw_designator d = record { category = d.category; attribute = d.attribute; datatype = uri_of d.datatype; issuer = d.issuer; must_be_present = d.must_be_present }

type_back : (datatype : DataType) → type_of (uri_of datatype) ≡ Some datatype
unfolding type_of uri_of short_name_of
type_back types.Text = refl
type_back types.Boolean = refl
type_back types.Integer = refl
type_back types.Date = refl
type_back types.AnyUri = refl
type_back types.YearMonth = refl
type_back types.Time = refl
type_back types.DateTime = refl

value_form : (value : Value) → IsReal value → value_of (literal_written value) ≡ Ok (raw_value value)
unfolding value_of literal_written value_written
value_form (values.Text text) h = refl
value_form (values.Boolean boolean) h = refl
value_form (values.Integer (pos n)) h = rw h refl
value_form (values.Integer (negsuc n)) h = refl
value_form (values.Date date) h = refl
value_form (values.AnyUri uri) h = refl
value_form (values.YearMonth months) h = refl
value_form (values.Time time) h = refl
value_form (values.DateTime moment) h = refl

literal_holds : (value : Value) → IsReadable value → literal_as (raw_literal value) (datatype_of value) ≡ Some value
unfolding literal_as
literal_holds (values.Text text) h = read_back (values.Text text) h
literal_holds (values.Boolean boolean) h = refl
literal_holds (values.Integer integer) h = rw h refl
literal_holds (values.Date date) h = read_back (values.Date date) h
literal_holds (values.AnyUri uri) h = read_back (values.AnyUri uri) h
literal_holds (values.YearMonth months) h = read_back (values.YearMonth months) h
literal_holds (values.Time time) h = read_back (values.Time time) h
literal_holds (values.DateTime moment) h = read_back (values.DateTime moment) h

value_holds : (value : Value) → IsReadable value → value_read (raw_value value) ≡ done value
unfolding value_read
value_holds value h = rw (type_back (datatype_of value), literal_holds value h) refl

literal_few : (value : Value) (o : Option Value) → literal_as (raw_literal value) (datatype_of value) ≡ o → (known (values.Boolean false) faults.«Type» o).fault ≡ None → HasFewYears value
unfolding literal_as
literal_few (values.Text text) o is clear = tt
literal_few (values.Boolean boolean) o is clear = tt
literal_few (values.Integer integer) o is clear = tt
literal_few (values.Date date) o is clear = tt
literal_few (values.AnyUri uri) o is clear = tt
literal_few (values.YearMonth months) (Some v) is clear = text_few months (Some v) is v refl
literal_few (values.YearMonth months) None is clear = absurd cc
literal_few (values.Time time) o is clear = tt
literal_few (values.DateTime moment) o is clear = tt

value_few : (value : Value) → (value_read (raw_value value)).fault ≡ None → HasFewYears value
unfolding value_read
value_few value clear = literal_few value _ refl (sym (ap (λ (t : Option DataType). (known (values.Boolean false) faults.«Type» (option_and_then (literal_as (raw_literal value)) t)).fault) (type_back (datatype_of value))) ∙ clear)

pub value_back : (value : Value) → IsReal value → Back (value_of (literal_written value)) value_read (value ∷ []) value
value_back value real = (
  raw_value value,
  (value_form value real, record { same = λ few. value_holds value (readable value real few.0); few = λ clear. (value_few value clear, tt) }),
)

designator_form : (category attribute : List ℕ) (datatype : DataType) (issuer : Option (List ℕ)) (must_be_present : Bool) (d : Designator) → d ≡ record { category = category; attribute = attribute; datatype = datatype; issuer = issuer; must_be_present = must_be_present }
    → designator_of (designator_written d) ≡ Ok (raw_designator d)
unfolding designator_of designator_written
designator_form category attribute datatype None must_be_present d same = rw same refl
designator_form category attribute datatype (Some issuer) must_be_present d same = rw same refl

pub designator_back : (d : Designator) → Back (designator_of (designator_written d)) designator_read [] d
unfolding designator_read
designator_back d = (
  raw_designator d,
  (
    designator_form d.category d.attribute d.datatype d.issuer d.must_be_present d refl,
    record { same = λ few. rw (type_back d.datatype) refl; few = λ clear. tt },
  ),
)
