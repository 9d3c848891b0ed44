-- Whether what a plan rests on is equal.
use Rattle.std.proofs.Common.{◌≡◌, Bool, true, Option, Some, None, refl, ap}
use Rattle.std.specs.Option.{option_eq}
use Rattle.ent_values.specs.Calendar.{Day, TimeOfDay}
use Rattle.ent_values.specs.Same.{same_date, same_date_time, same_time}
use Rattle.ent_values.specs.declared.date_time.DateTime.{DateTime}
use Rattle.ent_values.specs.declared.value.Value.TheVariants as value
use Rattle.ent_values.proofs.Values.{same_value-Decides}

equal_when : {A : Type 0} {E : A → A → Bool} → ((x y : A) → E x y ≡ true → x ≡ y) → (o p : Option A) → option_eq E o p ≡ true → o ≡ p
equal_when same None None h = refl
equal_when same None (Some y) h = absurd (cc)
equal_when same (Some x) None h = absurd (cc)
equal_when same (Some x) (Some y) h = ap Some (same x y h)

pub equal_dates : (o p : Option Day) → option_eq same_date o p ≡ true → o ≡ p
equal_dates = equal_when (λ a b h. let same = (same_value-Decides (value.Date a) (value.Date b)).0 h in cc)

pub equal_times : (o p : Option TimeOfDay) → option_eq same_time o p ≡ true → o ≡ p
equal_times = equal_when (λ a b h. let same = (same_value-Decides (value.Time a) (value.Time b)).0 h in cc)

pub equal_moments : (o p : Option DateTime) → option_eq same_date_time o p ≡ true → o ≡ p
equal_moments = equal_when (λ a b h. let same = (same_value-Decides (value.DateTime a) (value.DateTime b)).0 h in cc)
