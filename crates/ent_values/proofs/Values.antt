-- `==` decides whether values, lists of values and bags are equal.
use Rattle.std.proofs.Common.{◌≡◌, List, Bool, true, false, ap, sym, refl, rules}
use Rattle.std.proofs.lemmas.Bool.{true≢false}
use Rattle.std.specs.Bool.{Decides}
use Rattle.std.specs.Prelude.{◌&&◌}
use Rattle.std.proofs.lemmas.Slice.Eq.{bytes_eq-Decides, slice_eq-Decides}
use Rattle.ent_values.specs.Bags.{Contents}
use Rattle.ent_values.specs.Calendar.{Day, TimeOfDay}
use Rattle.ent_values.specs.Same.{same_bag, same_date, same_date_time, same_time, same_type, same_value, same_values}
use Rattle.ent_values.specs.declared.datatype.DataType.{DataType}
use Rattle.ent_values.specs.declared.date_time.DateTime as declared
use Rattle.ent_values.specs.declared.value.Value.{Value}
use Rattle.ent_values.specs.declared.value.Value.TheVariants.{Text, Boolean, Integer, Date, AnyUri, YearMonth, Time, DateTime}

both : (a b : Bool) → (a && b) ≡ true → (a ≡ true) × (b ≡ true)
both true b e = (refl, e)
both false b e = absurd (true≢false (sym e))

same_date-Decides : (a b : Day) → Decides (same_date a b) (a ≡ b)
same_date-Decides a b = search rules

same_time-Decides : (a b : TimeOfDay) → Decides (same_time a b) (a ≡ b)
same_time-Decides a b = search rules

same_date_time-Decides : (a b : declared.DateTime) → Decides (same_date_time a b) (a ≡ b)
same_date_time-Decides a b = (
  λ e. let parts = both _ _ e in
      let date = (same_date-Decides a.date b.date).0 parts.0 in
      let time = (same_time-Decides a.time b.time).0 parts.1 in
      λ i. record { date = date i; time = time i },
  λ e. let date = (same_date-Decides a.date b.date).1 (ap (λ moment. moment.date) e) in
      let time = (same_time-Decides a.time b.time).1 (ap (λ moment. moment.time) e) in
      rw (date, time) refl,
)

pub same_value-Decides : (a b : Value) → Decides (same_value a b) (a ≡ b)
same_value-Decides (Text a) (Text b) = (λ h. ap Text ((bytes_eq-Decides a b).0 h), λ h. (bytes_eq-Decides a b).1 (cc))
same_value-Decides (Text a) (Boolean b) = search rules
same_value-Decides (Text a) (Integer b) = search rules
same_value-Decides (Text a) (Date b) = search rules
same_value-Decides (Text a) (AnyUri b) = search rules
same_value-Decides (Text a) (YearMonth b) = search rules
same_value-Decides (Text a) (Time b) = search rules
same_value-Decides (Text a) (DateTime b) = search rules
same_value-Decides (Boolean a) (Text b) = search rules
same_value-Decides (Boolean a) (Boolean b) = search rules
same_value-Decides (Boolean a) (Integer b) = search rules
same_value-Decides (Boolean a) (Date b) = search rules
same_value-Decides (Boolean a) (AnyUri b) = search rules
same_value-Decides (Boolean a) (YearMonth b) = search rules
same_value-Decides (Boolean a) (Time b) = search rules
same_value-Decides (Boolean a) (DateTime b) = search rules
same_value-Decides (Integer a) (Text b) = search rules
same_value-Decides (Integer a) (Boolean b) = search rules
same_value-Decides (Integer a) (Integer b) = search rules
same_value-Decides (Integer a) (Date b) = search rules
same_value-Decides (Integer a) (AnyUri b) = search rules
same_value-Decides (Integer a) (YearMonth b) = search rules
same_value-Decides (Integer a) (Time b) = search rules
same_value-Decides (Integer a) (DateTime b) = search rules
same_value-Decides (Date a) (Text b) = search rules
same_value-Decides (Date a) (Boolean b) = search rules
same_value-Decides (Date a) (Integer b) = search rules
same_value-Decides (Date a) (Date b) = search rules
same_value-Decides (Date a) (AnyUri b) = search rules
same_value-Decides (Date a) (YearMonth b) = search rules
same_value-Decides (Date a) (Time b) = search rules
same_value-Decides (Date a) (DateTime b) = search rules
same_value-Decides (AnyUri a) (Text b) = search rules
same_value-Decides (AnyUri a) (Boolean b) = search rules
same_value-Decides (AnyUri a) (Integer b) = search rules
same_value-Decides (AnyUri a) (Date b) = search rules
same_value-Decides (AnyUri a) (AnyUri b) = (λ h. ap AnyUri ((bytes_eq-Decides a b).0 h), λ h. (bytes_eq-Decides a b).1 (cc))
same_value-Decides (AnyUri a) (YearMonth b) = search rules
same_value-Decides (AnyUri a) (Time b) = search rules
same_value-Decides (AnyUri a) (DateTime b) = search rules
same_value-Decides (YearMonth a) (Text b) = search rules
same_value-Decides (YearMonth a) (Boolean b) = search rules
same_value-Decides (YearMonth a) (Integer b) = search rules
same_value-Decides (YearMonth a) (Date b) = search rules
same_value-Decides (YearMonth a) (AnyUri b) = search rules
same_value-Decides (YearMonth a) (YearMonth b) = search rules
same_value-Decides (YearMonth a) (Time b) = search rules
same_value-Decides (YearMonth a) (DateTime b) = search rules
same_value-Decides (Time a) (Text b) = search rules
same_value-Decides (Time a) (Boolean b) = search rules
same_value-Decides (Time a) (Integer b) = search rules
same_value-Decides (Time a) (Date b) = search rules
same_value-Decides (Time a) (AnyUri b) = search rules
same_value-Decides (Time a) (YearMonth b) = search rules
same_value-Decides (Time a) (Time b) = search rules
same_value-Decides (Time a) (DateTime b) = search rules
same_value-Decides (DateTime a) (Text b) = search rules
same_value-Decides (DateTime a) (Boolean b) = search rules
same_value-Decides (DateTime a) (Integer b) = search rules
same_value-Decides (DateTime a) (Date b) = search rules
same_value-Decides (DateTime a) (AnyUri b) = search rules
same_value-Decides (DateTime a) (YearMonth b) = search rules
same_value-Decides (DateTime a) (Time b) = search rules
same_value-Decides (DateTime a) (DateTime b) = (λ h. ap DateTime ((same_date_time-Decides a b).0 h), λ h. (same_date_time-Decides a b).1 (cc))

pub same_values-Decides : (a b : List Value) → Decides (same_values a b) (a ≡ b)
same_values-Decides a b = slice_eq-Decides same_value-Decides a b _ refl

pub same_type-Decides : (a b : DataType) → Decides (same_type a b) (a ≡ b)
same_type-Decides a b = search rules

pub same_bag-Decides : (a b : Contents) → Decides (same_bag a b) (a ≡ b)
same_bag-Decides a b = (
  λ e. let parts = both _ _ e in
      let datatypes = (same_type-Decides a.datatype b.datatype).0 parts.0 in
      let values = (same_values-Decides a.values b.values).0 parts.1 in
      λ i. record { datatype = datatypes i; values = values i },
  λ e. let datatypes = (same_type-Decides a.datatype b.datatype).1 (ap (λ bag. bag.datatype) e) in
      let values = (same_values-Decides a.values b.values).1 (ap (λ bag. bag.values) e) in
      rw (datatypes, values) refl,
)
