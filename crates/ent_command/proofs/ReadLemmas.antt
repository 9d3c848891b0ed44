-- What is read, and what isn't.
use Rattle.std.proofs.Common.{◌≡◌, ℕ, suc, List, [], ◌∷◌, ◌++◌, map, length, true, true≢false, Option, Some, None, option_map, IfSome, IfNone, refl, sym, ap, ◌∙◌}
use Rattle.serde_json.specs.Events.{items_len}
use Rattle.serde_json.specs.Data.{Data}
use Rattle.serde_json.specs.View.{items_of}
use Rattle.ent_values.specs.Calendar.{Day}
use Rattle.ent_values.specs.Reading.{date_of, date_time_of, value_of}
use Rattle.ent_values.specs.Types.{datatype_of, is_textual}
use Rattle.ent_values.specs.declared.datatype.DataType.{DataType}
use Rattle.ent_values.specs.declared.datatype.DataType.TheVariants as types
use Rattle.ent_values.specs.declared.date_time.DateTime.{DateTime}
use Rattle.ent_values.specs.declared.fault.ValueFault.{ValueFault}
use Rattle.ent_values.specs.declared.fault.ValueFault.TheVariants.{BadValue, Memory}
use Rattle.ent_values.specs.declared.value.Value.{Value}
use Rattle.ent_values.specs.declared.value.Value.TheVariants as values

-- ---- days and moments

-- what a value is that was read is what was written
found_written : {A : Type 0} (value : A → Value) (datatype : DataType) → ((x y : A) → value x ≡ value y → x ≡ y) → ((x : A) → datatype_of (value x) ≡ datatype)
    → (written found : Option A) (v : Value) → option_map value written ≡ Some v → IfSome found (λ x. v ≡ value x) → IfNone found (datatype_of v ≡ datatype → ⊥) → found ≡ written
found_written value datatype apart is None found v h some none = absurd cc
found_written value datatype apart is (Some x) None v h some none = let same : v ≡ value x = cc in absurd (none (ap datatype_of same ∙ is x))
found_written value datatype apart is (Some x) (Some y) v h some none = let same : v ≡ value x = cc in ap Some (apart y x (sym some ∙ same))

nothing_written : {A : Type 0} (value : A → Value) (written : Option A) → option_map value written ≡ None → None ≡ written
nothing_written value None h = refl
nothing_written value (Some x) h = absurd cc

-- a value that was read as a day is the day that was written
pub day_read : (text : List ℕ) (day : Option Day) (v : Value) → value_of types.Date text ≡ Some v
    → IfSome day (λ d. v ≡ values.Date d) → IfNone day (datatype_of v ≡ types.Date → ⊥) → day ≡ date_of text
unfolding value_of
day_read text day v h some none = found_written values.Date types.Date (λ x y e. cc) (λ x. refl) (date_of text) day v h some none

-- what can't be read as a day writes none
pub no_day_read : (text : List ℕ) (e : ValueFault) → (e ≡ BadValue → value_of types.Date text ≡ None) → (e ≡ Memory → is_textual types.Date ≡ true) → None ≡ date_of text
unfolding value_of
no_day_read text BadValue bad memory = nothing_written values.Date (date_of text) (bad refl)
no_day_read text Memory bad memory = absurd (true≢false (sym (memory refl)))

-- a value that was read as a moment is the moment that was written
pub moment_read : (text : List ℕ) (moment : Option DateTime) (v : Value) → value_of types.DateTime text ≡ Some v
    → IfSome moment (λ m. v ≡ values.DateTime m) → IfNone moment (datatype_of v ≡ types.DateTime → ⊥) → moment ≡ date_time_of text
unfolding value_of
moment_read text moment v h some none = found_written values.DateTime types.DateTime (λ x y e. cc) (λ x. refl) (date_time_of text) moment v h some none

-- what can't be read as a moment writes none
pub no_moment_read : (text : List ℕ) (e : ValueFault) → (e ≡ BadValue → value_of types.DateTime text ≡ None) → (e ≡ Memory → is_textual types.DateTime ≡ true)
    → None ≡ date_time_of text
unfolding value_of
no_moment_read text BadValue bad memory = nothing_written values.DateTime (date_time_of text) (bad refl)
no_moment_read text Memory bad memory = absurd (true≢false (sym (memory refl)))

-- ---- values

-- what was read before, and what is still read
abbrev pub with_front : List Value → Option (List Value) → Option (List Value)
with_front front read = option_map (λ vs. front ++ vs) read

-- as many values stand in a line as the code sees
pub values_counted : {J : Type 0} (content : J → Data) (js : List J) → items_len (items_of (map content js)) ≡ length js
values_counted content [] = refl
values_counted content (j ∷ js) = ap suc (values_counted content js)
