-- The type of a value that JSON spells, and that the value is what its type says.
use Rattle.std.proofs.Common.{◌≡◌, ℕ, ℤ, pos, negsuc, ◌<◌, ◌^◌, lt-ltb, List, Bool, true, false, ◌&&◌, take, drop, length, nat_lt, Option, Some, None, option_and_then, option_map, refl, subst}
use Rattle.std.specs.Prelude.{if◌then◌else◌}
use Rattle.std.specs.Char.{is_ascii_digit}
use Rattle.std.specs.List.{list_all}
use Rattle.std.specs.Str.Parse.{digits_value, signed_digits_value, without_leading_sign}
use Rattle.serde_json.specs.Data as json
use Rattle.serde_json.specs.Data.{Data, Items, Members, Num}
use Rattle.serde_json.specs.Find.{as_i64}
use Rattle.ent_values.specs.Calendar.{Day, TimeOfDay, day_of, is_date, is_time, time_of_day}
use Rattle.ent_values.specs.ReadBack.{IsReal, IsRealDay, IsRealMoment, IsRealTime}
use Rattle.ent_values.specs.Reading.{boolean_of, date_of, date_time_of, duration_of, integer_of, is_within_64_bits, time_of, value_of}
use Rattle.ent_values.specs.Types.{datatype_of}
use Rattle.ent_values.specs.declared.datatype.DataType.{DataType}
use Rattle.ent_values.specs.declared.datatype.DataType.TheVariants as types
use Rattle.ent_values.specs.declared.date_time.DateTime.{DateTime}
use Rattle.ent_values.specs.declared.value.Value.{Value}
use Rattle.ent_values.specs.declared.value.Value.TheVariants as values
use Rattle.ent_policy.specs.Reading.{boolean_as, integer_as}
use Rattle.ent_polform.specs.Values.{value_in}

-- ---- numbers

-- a negative whole number has 64 bits
abbrev pub IsSizedNumber : Num → Type 0
IsSizedNumber (json.unsigned n) = Unit {0}
IsSizedNumber (json.negative (pos n)) = ⊥
IsSizedNumber (json.negative (negsuc n)) = n < 2 ^ 63
IsSizedNumber (json.float x) = Unit {0}

-- each negative whole number in it has
abbrev mutual
  pub IsSized : Data → Type 0
  IsSized json.null = Unit {0}
  IsSized (json.boolean b) = Unit {0}
  IsSized (json.number n) = IsSizedNumber n
  IsSized (json.string s) = Unit {0}
  IsSized (json.array ds) = AreSized ds
  IsSized (json.object ms) = AreSizedMembers ms

  pub AreSized : Items → Type 0
  AreSized json.no_items = Unit {0}
  AreSized (json.item d ds) = IsSized d × AreSized ds

  pub AreSizedMembers : Members → Type 0
  AreSizedMembers json.no_members = Unit {0}
  AreSizedMembers (json.member k d ms) = IsSized d × AreSizedMembers ms

-- ---- what was read

pub then_there : {A B : Type 0} (f : A → Option B) (o : Option A) (y : B) → option_and_then f o ≡ Some y → (x : A) × ((o ≡ Some x) × (f x ≡ Some y))
then_there f (Some x) y h = (x, (refl, h))
then_there f None y h = absurd cc

-- what is read where a test holds
if_holds : {A : Type 0} (P : A → Type 0) (b : Bool) (o : Option A) (x : A) → (b ≡ true → o ≡ Some x → P x) → (if b then o else None) ≡ Some x → P x
if_holds P true o x good h = good refl h
if_holds P false o x good h = absurd cc

found_is : {A : Type 0} (P : A → Type 0) (x y : A) → P x → ◌≡◌ {A = Option A} (Some x) (Some y) → P y
found_is P x y good h = let same : x ≡ y = cc in subst P same good

-- ---- days and moments

pub date_real : (text : List ℕ) (day : Day) → date_of text ≡ Some day → IsRealDay day
unfolding date_of
date_real text day h = if_holds IsRealDay _ (day_of y m d) day (λ _ is. if_holds IsRealDay (is_date y m d) (Some (record { year = y; month = m; day = d })) day (λ real one. found_is IsRealDay _ day real one) is) h
  where
    y : ℕ
    y = digits_value 10 (take 4 text)

    m : ℕ
    m = digits_value 10 (take 2 (drop 5 text))

    d : ℕ
    d = digits_value 10 (take 2 (drop 8 text))

time_real : (text : List ℕ) (time : TimeOfDay) → time_of text ≡ Some time → IsRealTime time
unfolding time_of
time_real text time h = if_holds IsRealTime _ (time_of_day k m s) time (λ _ is. if_holds IsRealTime (is_time k m s) (Some (record { hour = k; minute = m; second = s })) time (λ real one. found_is IsRealTime _ time real one) is) h
  where
    k : ℕ
    k = digits_value 10 (take 2 text)

    m : ℕ
    m = digits_value 10 (take 2 (drop 3 text))

    s : ℕ
    s = digits_value 10 (take 2 (drop 6 text))

both_real : (date : Option Day) (time : Option TimeOfDay) (moment : DateTime) → ((d : Day) → date ≡ Some d → IsRealDay d) → ((t : TimeOfDay) → time ≡ Some t → IsRealTime t)
    → option_and_then (λ date. option_map (λ time. record { date = date; time = time }) time) date ≡ Some moment → IsRealMoment moment
both_real None time moment of_date of_time h = absurd cc
both_real (Some date) None moment of_date of_time h = absurd cc
both_real (Some date) (Some time) moment of_date of_time h = found_is IsRealMoment (record { date = date; time = time }) moment (of_date date refl, of_time time refl) h

pub moment_real : (text : List ℕ) (moment : DateTime) → date_time_of text ≡ Some moment → IsRealMoment moment
unfolding date_time_of
moment_real text moment h =
    if_holds IsRealMoment _ _ moment (λ _ is. both_real (date_of (take 10 text)) (time_of (drop 11 text)) moment (date_real (take 10 text)) (time_real (drop 11 text)) is) h

-- ---- values

-- a value has that type and is what the type says
abbrev pub IsOf : DataType → Value → Type 0
IsOf datatype v = (datatype_of v ≡ datatype) × IsReal v

of_type : {A : Type 0} (make : A → Value) (datatype : DataType) (o : Option A) (v : Value) → ((x : A) → o ≡ Some x → IsOf datatype (make x)) → option_map make o ≡ Some v → IsOf datatype v
of_type make datatype (Some x) v good h = let same : make x ≡ v = cc in subst (λ (y : Value). IsOf datatype y) same (good x refl)
of_type make datatype None v good h = absurd cc

integer_within : (text : List ℕ) (z : ℤ) → integer_of text ≡ Some z → is_within_64_bits z ≡ true
unfolding integer_of
integer_within text z h =
    by (nat_lt 0 (length (without_leading_sign text)) && list_all is_ascii_digit (without_leading_sign text)) (is_within_64_bits (signed_digits_value 10 text)) refl h
  where
    by : (a b : Bool) → is_within_64_bits (signed_digits_value 10 text) ≡ b → (if a && b then Some (signed_digits_value 10 text) else None) ≡ Some z → is_within_64_bits z ≡ true
    by true true e h = let same : signed_digits_value 10 text ≡ z = cc in subst (λ (x : ℤ). is_within_64_bits x ≡ true) same e
    by true false e h = absurd cc
    by false b e h = absurd cc

text_typed : (datatype : DataType) (text : List ℕ) (v : Value) → value_of datatype text ≡ Some v → IsOf datatype v
unfolding value_of
text_typed types.Text text v h = of_type values.Text types.Text (Some text) v (λ x is. (refl, tt)) h
text_typed types.Boolean text v h = of_type values.Boolean types.Boolean (boolean_of text) v (λ x is. (refl, tt)) h
text_typed types.Integer text v h = of_type values.Integer types.Integer (integer_of text) v (λ x is. (refl, integer_within text x is)) h
text_typed types.Date text v h = of_type values.Date types.Date (date_of text) v (λ x is. (refl, date_real text x is)) h
text_typed types.AnyUri text v h = of_type values.AnyUri types.AnyUri (Some text) v (λ x is. (refl, tt)) h
text_typed types.YearMonth text v h = of_type values.YearMonth types.YearMonth (duration_of text) v (λ x is. (refl, tt)) h
text_typed types.Time text v h = of_type values.Time types.Time (time_of text) v (λ x is. (refl, time_real text x is)) h
text_typed types.DateTime text v h = of_type values.DateTime types.DateTime (date_time_of text) v (λ x is. (refl, moment_real text x is)) h

boolean_typed : (datatype : DataType) (b : Bool) (v : Value) → boolean_as b datatype ≡ Some v → IsOf datatype v
boolean_typed types.Boolean b v h = of_type values.Boolean types.Boolean (Some b) v (λ x is. (refl, tt)) h
boolean_typed types.Text b v h = absurd cc
boolean_typed types.Integer b v h = absurd cc
boolean_typed types.Date b v h = absurd cc
boolean_typed types.AnyUri b v h = absurd cc
boolean_typed types.YearMonth b v h = absurd cc
boolean_typed types.Time b v h = absurd cc
boolean_typed types.DateTime b v h = absurd cc

-- that value is the integer
integer_is : (datatype : DataType) (z : ℤ) (v : Value) → integer_as z datatype ≡ Some v → (datatype ≡ types.Integer) × (values.Integer z ≡ v)
integer_is types.Integer z v h = (refl, cc)
integer_is types.Boolean z v h = absurd cc
integer_is types.Text z v h = absurd cc
integer_is types.Date z v h = absurd cc
integer_is types.AnyUri z v h = absurd cc
integer_is types.YearMonth z v h = absurd cc
integer_is types.Time z v h = absurd cc
integer_is types.DateTime z v h = absurd cc

i64_within : (n : Num) (z : ℤ) → IsSizedNumber n → as_i64 n ≡ Some z → is_within_64_bits z ≡ true
i64_within (json.unsigned n) z sized h = by (nat_lt n (2 ^ 63)) refl h
  where
    by : (b : Bool) → nat_lt n (2 ^ 63) ≡ b → (if b then Some (pos n) else None) ≡ Some z → is_within_64_bits z ≡ true
    by true e h = let same : pos n ≡ z = cc in subst (λ (x : ℤ). is_within_64_bits x ≡ true) same e
    by false e h = absurd cc
i64_within (json.negative (pos n)) z sized h = absurd sized
i64_within (json.negative (negsuc n)) z sized h = let same : negsuc n ≡ z = cc in subst (λ (x : ℤ). is_within_64_bits x ≡ true) same (lt-ltb n (2 ^ 63) sized)
i64_within (json.float x) z sized h = absurd cc

-- a value that JSON spells is of the type that it is read by, and what that type says, if the JSON's negative numbers have 64 bits
pub value_typed : (datatype : DataType) (d : Data) (v : Value) → value_in datatype d ≡ Some v → (datatype_of v ≡ datatype) × (IsSized d → IsReal v)
unfolding value_in
value_typed datatype json.null v h = absurd cc
value_typed datatype (json.boolean b) v h = let is = boolean_typed datatype b v h in (is.0, λ sized. is.1)
value_typed datatype (json.number n) v h =
    let one = then_there (λ z. integer_as z datatype) (as_i64 n) v h in
    let is = integer_is datatype one.0 v one.1.1 in
    rw (is.0, ← is.1) (refl, λ sized. i64_within n one.0 sized one.1.0)
value_typed datatype (json.string s) v h = let is = text_typed datatype s v h in (is.0, λ sized. is.1)
value_typed datatype (json.array ds) v h = absurd cc
value_typed datatype (json.object ms) v h = absurd cc
