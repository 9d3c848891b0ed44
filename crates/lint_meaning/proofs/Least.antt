-- Nothing lies below the least value of a type.
use Rattle.std.proofs.Common.{◌≡◌, ℕ, ◌<◌, List, [], ◌∷◌, Bool, true, false, ◌&&◌, ◌==◌, Ordering, nat_cmp, refl, ap, ◌∙◌, arith}
use Rattle.std.proofs.lemmas.Bool.{and_parts, false≢true}
use Rattle.std.proofs.lemmas.Bool.Decides.{nat_tests}
use Rattle.std.proofs.lemmas.Cmp.{by_ranked, ranked}
use Rattle.std.specs.Cmp.Lexicographic.{slice_cmp}
use Rattle.std.specs.Ordering.{ordering_then}
use Rattle.std.specs.declared.cmp.Ordering.TheVariants as order
use Rattle.lint_meaning.specs.Bounds.{NoValueLiesBelowTheLeast, is_empty_text, is_midnight, lies}
use Rattle.lint_meaning.specs.declared.bounds.Limit.TheVariants as limit
use Rattle.ent_values.proofs.Orders.{value_cmp-value_order}
use Rattle.ent_values.specs.Calendar.{TimeOfDay, time_order}
use Rattle.ent_values.specs.Order.{value_cmp}
use Rattle.ent_values.specs.Types.{datatype_of}
use Rattle.ent_values.specs.declared.datatype.DataType.{DataType}
use Rattle.ent_values.specs.declared.datatype.DataType.TheVariants as types
use Rattle.ent_values.specs.declared.value.Value.{Value}
use Rattle.ent_values.specs.declared.value.Value.TheVariants as values

zero_from : (m : ℕ) → (m == 0) ≡ true → m ≡ 0
zero_from m h = grind (arith, nat_tests)

-- no number is less than 0
not_less : (n m : ℕ) → (m == 0) ≡ true → lies limit.Below (nat_cmp n m) ≡ false
not_less n m h =
    let zero : m ≡ 0 = zero_from m h in
    by_ranked (n < m) (n ≡ m) (m < n) (nat_cmp n m) (ranked n m (nat_cmp n m) refl) (λ e lt. absurd (omega (arith, lt, zero))) (λ e _. ap (lies limit.Below) e) (λ e _. ap (lies limit.Below) e)

then_not_less : (o p : Ordering) → lies limit.Below o ≡ false → lies limit.Below p ≡ false → lies limit.Below (ordering_then o p) ≡ false
then_not_less order.Less p h k = h
then_not_less order.Equal p h k = k
then_not_less order.Greater p h k = refl

no_time_before : (u t : TimeOfDay) → is_midnight t ≡ true → lies limit.Below (time_order u t) ≡ false
no_time_before u t h =
    let p = and_parts (t.hour == 0) (t.minute == 0 && t.second == 0) h in
    let q = and_parts (t.minute == 0) (t.second == 0) p.1 in
    then_not_less (nat_cmp u.hour t.hour) _ (not_less u.hour t.hour p.0)
    (then_not_less (nat_cmp u.minute t.minute) (nat_cmp u.second t.second) (not_less u.minute t.minute q.0) (not_less u.second t.second q.1))

no_text_before : (a b : List ℕ) → is_empty_text b ≡ true → lies limit.Below (slice_cmp nat_cmp a b) ≡ false
no_text_before [] [] h = refl
no_text_before (x ∷ xs) [] h = refl
no_text_before a (y ∷ ys) h = absurd (false≢true h)

abbrev is_type_of_times : DataType → Bool
is_type_of_times types.Time = true
is_type_of_times _ = false

abbrev is_type_of_texts : DataType → Bool
is_type_of_texts types.Text = true
is_type_of_texts _ = false

time_below : (t : TimeOfDay) (v : Value) → is_type_of_times (datatype_of v) ≡ true → is_midnight t ≡ true → lies limit.Below (value_cmp v (values.Time t)) ≡ false
time_below t (values.Time u) h m = ap (lies limit.Below) (value_cmp-value_order (values.Time u) (values.Time t)) ∙ no_time_before u t m
time_below t (values.Text a) h m = absurd (false≢true h)
time_below t (values.Boolean a) h m = absurd (false≢true h)
time_below t (values.Integer a) h m = absurd (false≢true h)
time_below t (values.Date a) h m = absurd (false≢true h)
time_below t (values.AnyUri a) h m = absurd (false≢true h)
time_below t (values.YearMonth a) h m = absurd (false≢true h)
time_below t (values.DateTime a) h m = absurd (false≢true h)

text_below : (b : List ℕ) (v : Value) → is_type_of_texts (datatype_of v) ≡ true → is_empty_text b ≡ true → lies limit.Below (value_cmp v (values.Text b)) ≡ false
text_below b (values.Text a) h e = ap (lies limit.Below) (value_cmp-value_order (values.Text a) (values.Text b)) ∙ no_text_before a b e
text_below b (values.Time a) h e = absurd (false≢true h)
text_below b (values.Boolean a) h e = absurd (false≢true h)
text_below b (values.Integer a) h e = absurd (false≢true h)
text_below b (values.Date a) h e = absurd (false≢true h)
text_below b (values.AnyUri a) h e = absurd (false≢true h)
text_below b (values.YearMonth a) h e = absurd (false≢true h)
text_below b (values.DateTime a) h e = absurd (false≢true h)

pub nothing_below : NoValueLiesBelowTheLeast
nothing_below limit.Below (values.Time t) v h least = time_below t v (ap is_type_of_times h) least
nothing_below limit.Below (values.Text b) v h least = text_below b v (ap is_type_of_texts h) least
nothing_below limit.Below (values.Boolean a) v h least = absurd (false≢true least)
nothing_below limit.Below (values.Integer a) v h least = absurd (false≢true least)
nothing_below limit.Below (values.Date a) v h least = absurd (false≢true least)
nothing_below limit.Below (values.AnyUri a) v h least = absurd (false≢true least)
nothing_below limit.Below (values.YearMonth a) v h least = absurd (false≢true least)
nothing_below limit.Below (values.DateTime a) v h least = absurd (false≢true least)
nothing_below limit.Exactly w v h least = absurd (false≢true least)
nothing_below limit.Above w v h least = absurd (false≢true least)
nothing_below limit.From w v h least = absurd (false≢true least)
nothing_below limit.UpTo w v h least = absurd (false≢true least)
