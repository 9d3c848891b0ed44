-- The lexical forms of the data types: the value that a text stands for (appendix A.2, and XML Schema part 2).
use Rattle.std.specs.Prelude.{ℕ, ◌+◌, ◌*◌, ◌-◌, Bool, true, false, ◌&&◌, ◌||◌, ◌==◌, nat_lt, nat_le, ◌^◌, List, [], ◌∷◌, length, take, drop, position, ℤ, pos, negsuc, neg_ℤ, Option, Some, None, option_map, option_and_then, if◌then◌else◌, bytes_eq, codes}
use Rattle.std.specs.Char.{is_ascii_digit}
use Rattle.std.specs.List.{list_all}
use Rattle.std.specs.Str.Parse.{digits_value, signed_digits_value, without_leading_sign}
use Rattle.ent_values.specs.Calendar.{Day, TimeOfDay, day_of, time_of_day}
use Rattle.ent_values.specs.declared.datatype.DataType.{DataType}
use Rattle.ent_values.specs.declared.datatype.DataType.TheVariants as types
use Rattle.ent_values.specs.declared.date_time.DateTime.{DateTime}
use Rattle.ent_values.specs.declared.value.Value.{Value}
use Rattle.ent_values.specs.declared.value.Value.TheVariants as values

-- the number that 1 to 9 digits write, and none of any other text
unfoldable pub count_of : List ℕ → Option ℕ
count_of text =
    if nat_le 1 (length text) && nat_le (length text) 9 && list_all is_ascii_digit text then Some (digits_value 10 text) else None

-- true or false, as a word or as 1 or 0
unfoldable pub boolean_of : List ℕ → Option Bool
boolean_of text =
    if bytes_eq text (codes "true") || bytes_eq text (codes "1") then Some true
    else (if bytes_eq text (codes "false") || bytes_eq text (codes "0") then Some false else None)

-- the number is within signed 64 bits, where `negsuc n` is -(n + 1)
abbrev pub is_within_64_bits : ℤ → Bool
is_within_64_bits (pos n) = nat_lt n (2 ^ 63)
is_within_64_bits (negsuc n) = nat_lt n (2 ^ 63)

-- digits, at least one, with a sign in front of them or none, within signed 64 bits
unfoldable pub integer_of : List ℕ → Option ℤ
integer_of text =
    if nat_lt 0 (length (without_leading_sign text)) && list_all is_ascii_digit (without_leading_sign text)
    && is_within_64_bits (signed_digits_value 10 text)
    then Some (signed_digits_value 10 text) else None

-- a text is like a form if it has its length, a digit wherever the form has a 0, and the form's own byte elsewhere
abbrev pub has_form : List ℕ → List ℕ → Bool
has_form [] [] = true
has_form [] (byte ∷ text) = false
has_form (place ∷ form) [] = false
has_form (place ∷ form) (byte ∷ text) = (if place == 48 then is_ascii_digit byte else (byte == place)) && has_form form text

-- a day as year, month and day of 4, 2 and 2 digits with `-` between them, with a `Z` at the end or none
unfoldable pub date_of : List ℕ → Option Day
date_of text =
    if has_form (codes "0000-00-00") (take 10 text) && (bytes_eq (drop 10 text) [] || bytes_eq (drop 10 text) (codes "Z"))
    then day_of (digits_value 10 (take 4 text)) (digits_value 10 (take 2 (drop 5 text))) (digits_value 10 (take 2 (drop 8 text)))
    else None

-- a time as hour, minute and second of 2 digits each with `:` between them, with a `Z` at the end or none
unfoldable pub time_of : List ℕ → Option TimeOfDay
time_of text =
    if has_form (codes "00:00:00") (take 8 text) && (bytes_eq (drop 8 text) [] || bytes_eq (drop 8 text) (codes "Z"))
    then time_of_day (digits_value 10 (take 2 text)) (digits_value 10 (take 2 (drop 3 text))) (digits_value 10 (take 2 (drop 6 text)))
    else None

-- a date without `Z`, a `T` and a time
unfoldable pub date_time_of : List ℕ → Option DateTime
date_time_of text =
    if bytes_eq (take 1 (drop 10 text)) (codes "T")
    then option_and_then (λ date. option_map (λ time. record { date = date; time = time }) (time_of (drop 11 text))) (date_of (take 10 text))
    else None

-- the months of a part `nM`
unfoldable pub months_part_of : List ℕ → Option ℕ
months_part_of text =
    if bytes_eq (drop (length text - 1) text) (codes "M") then count_of (take (length text - 1) text) else None

-- the months of `nY`, where the list is `n` and what stands behind the `Y` is empty, or of `nYnM`
unfoldable pub years_part_of : List ℕ → List ℕ → Option ℕ
years_part_of years rest =
    option_and_then (λ n. option_map (λ m. 12 * n + m) (if bytes_eq rest [] then Some 0 else months_part_of rest)) (count_of years)

-- the months of a text with its first `Y` at that place, or with no `Y`
abbrev pub months_with_years_at : List ℕ → Option ℕ → Option ℕ
months_with_years_at text None = months_part_of text
months_with_years_at text (Some place) = years_part_of (take place text) (drop (place + 1) text)

-- the months of `nY`, `nM` or `nYnM` with a `P` in front
unfoldable pub period_of : List ℕ → Option ℕ
period_of text =
    if bytes_eq (take 1 text) (codes "P")
    then months_with_years_at (drop 1 text) (position (λ byte. byte == 89) (drop 1 text)) else None

-- the months of a period, negative if a `-` stands in front
unfoldable pub duration_of : List ℕ → Option ℤ
duration_of text =
    if bytes_eq (take 1 text) (codes "-") then option_map (λ n. neg_ℤ (pos n)) (period_of (drop 1 text))
    else option_map (λ n. pos n) (period_of text)

-- the value of a type that a text stands for
unfoldable pub value_of : DataType → List ℕ → Option Value
value_of types.Text text = Some (values.Text text)
value_of types.Boolean text = option_map values.Boolean (boolean_of text)
value_of types.Integer text = option_map values.Integer (integer_of text)
value_of types.Date text = option_map values.Date (date_of text)
value_of types.AnyUri text = Some (values.AnyUri text)
value_of types.YearMonth text = option_map values.YearMonth (duration_of text)
value_of types.Time text = option_map values.Time (time_of text)
value_of types.DateTime text = option_map values.DateTime (date_time_of text)
