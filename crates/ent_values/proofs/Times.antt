-- The lexical form of a time and of a dateTime, part by part.
use Rattle.std.proofs.Common.{◌≡◌, ◌≤◌, ◌<◌, [], ◌∷◌, ℕ, List, Bool, true, false, Option, Some, None, ap, refl, arith, length, get_or, take, drop, ◌∙◌}
use Rattle.std.proofs.lemmas.List.{drop_all, drop_more, length-take}
use Rattle.std.specs.Char.{is_ascii_digit}
use Rattle.std.specs.Prelude.{◌&&◌, ◌==◌, codes, if◌then◌else◌, option_and_then, option_map}
use Rattle.ent_values.proofs.Dates.{form_length, is_zone}
use Rattle.ent_values.specs.Calendar.{Day, TimeOfDay, time_of_day}
use Rattle.ent_values.specs.Reading.{count_of, date_of, date_time_of, has_form, time_of}
use Rattle.ent_values.specs.declared.date_time.DateTime.{DateTime}

-- the time of three counts, if all three are there
abbrev pub counted : Option ℕ → Option ℕ → Option ℕ → Option TimeOfDay
counted hour minute second =
    option_and_then (λ h. option_and_then (λ m. option_and_then (λ s. time_of_day h m s) second) minute) hour

-- the time, part by part
abbrev pub timed : List ℕ → Option TimeOfDay
timed text =
    if (get_or text 2 0 == 58) && ((get_or text 5 0 == 58) && is_zone (drop 8 text))
    then counted (count_of (take 2 text)) (count_of (take 2 (drop 3 text))) (count_of (take 2 (drop 6 text))) else None

two : (a b r : Bool) → (a && (b && r)) ≡ ((a && (b && true)) && r)
two true true r = refl
two true false r = refl
two false b r = refl

abbrev if_digits : Bool → ℕ → Option ℕ
if_digits b n = if b then Some n else None

parts : (h e m f s z : Bool) (hour minute second : ℕ) → (if (h && (e && (m && (f && s)))) && z then time_of_day hour minute second else None) ≡ (if e && (f && z) then counted (if_digits h hour) (if_digits m minute) (if_digits s second) else None)
parts false false m f s z hour minute second = refl
parts true false m f s z hour minute second = refl
parts false true m false s z hour minute second = refl
parts true true false false s z hour minute second = refl
parts true true true false s z hour minute second = refl
parts false true m true s false hour minute second = refl
parts true true false true s false hour minute second = refl
parts true true true true false false hour minute second = refl
parts true true true true true false hour minute second = refl
parts false true m true s true hour minute second = refl
parts true true false true s true hour minute second = refl
parts true true true true false true hour minute second = refl
parts true true true true true true hour minute second = refl

joined : (h1 h2 e m1 m2 f s z : Bool) (hour minute second : ℕ) → (if (h1 && (h2 && (e && (m1 && (m2 && (f && s)))))) && z then time_of_day hour minute second else None) ≡ (if e && (f && z) then counted (if_digits (h1 && (h2 && true)) hour) (if_digits (m1 && (m2 && true)) minute) (if_digits s second) else None)
joined h1 h2 e m1 m2 f s z hour minute second =
    ap (λ b. if b && z then time_of_day hour minute second else None)
    (two h1 h2 (e && (m1 && (m2 && (f && s)))) ∙ ap (λ r. (h1 && (h2 && true)) && (e && r)) (two m1 m2 (f && s)))
    ∙ parts (h1 && (h2 && true)) e (m1 && (m2 && true)) f s z hour minute second

pub time_law : (text : List ℕ) → 8 ≤ length text → time_of text ≡ timed text
unfolding time_of count_of
time_law [] long = absurd (omega (arith, long))
time_law (a ∷ []) long = absurd (omega (arith, long))
time_law (a ∷ b ∷ []) long = absurd (omega (arith, long))
time_law (a ∷ b ∷ c ∷ []) long = absurd (omega (arith, long))
time_law (a ∷ b ∷ c ∷ d ∷ []) long = absurd (omega (arith, long))
time_law (a ∷ b ∷ c ∷ d ∷ e ∷ []) long = absurd (omega (arith, long))
time_law (a ∷ b ∷ c ∷ d ∷ e ∷ f ∷ []) long = absurd (omega (arith, long))
time_law (a ∷ b ∷ c ∷ d ∷ e ∷ f ∷ g ∷ []) long = absurd (omega (arith, long))
time_law (a ∷ b ∷ c ∷ d ∷ e ∷ f ∷ g ∷ h ∷ zone) long =
    joined (is_ascii_digit a) (is_ascii_digit b) (c == 58) (is_ascii_digit d) (is_ascii_digit e) (f == 58) (is_ascii_digit g && (is_ascii_digit h && true)) (is_zone zone) _ _ _

pub short_no_time : (text : List ℕ) → length text < 8 → None ≡ time_of text
unfolding time_of
short_no_time text short = go (has_form (codes "00:00:00") (take 8 text)) refl
  where
    go : (b : Bool) → has_form (codes "00:00:00") (take 8 text) ≡ b → None ≡ time_of text
    go false t = rw t refl
    go true t = absurd (omega (arith, short, form_length (codes "00:00:00") (take 8 text) t, length-take 8 text))

-- the time of what the code reads part by part
pub timed_is : (text : List ℕ) (hour minute second : Option ℕ) → 8 ≤ length text → get_or text 2 0 ≡ 58 → get_or text 5 0 ≡ 58 → is_zone (drop 8 text) ≡ true → hour ≡ count_of (take 2 text) → minute ≡ count_of (take 2 (drop 3 text)) → second ≡ count_of (take 2 (drop 6 text)) → counted hour minute second ≡ time_of text
timed_is text hour minute second long first last zone h m s = rw (time_law text long, first, last, zone, h, m, s) refl

-- without a colon or the zone there is no time
pub no_time : (text : List ℕ) → 8 ≤ length text → ((get_or text 2 0 == 58) && ((get_or text 5 0 == 58) && is_zone (drop 8 text))) ≡ false → None ≡ time_of text
no_time text long e = rw (time_law text long, e) refl

-- the dateTime of a date and a time, if both are there
abbrev pub paired : Option Day → Option TimeOfDay → Option DateTime
paired date time = option_and_then (λ d. option_map (λ t. record { date = d; time = t }) time) date

-- the dateTime of what the code reads part by part
pub paired_is : (text : List ℕ) (date : Option Day) (time : Option TimeOfDay) → 11 ≤ length text → get_or text 10 0 ≡ 84 → date ≡ date_of (take 10 text) → time ≡ time_of (drop 11 text) → paired date time ≡ date_time_of text
unfolding date_time_of
paired_is text date time long mark d t = rw (drop_more text 10 0 (omega (arith, long)), mark, d, t) refl

-- without a `T` there is no dateTime
pub no_mark : (text : List ℕ) → 11 ≤ length text → (get_or text 10 0 == 84) ≡ false → None ≡ date_time_of text
unfolding date_time_of
no_mark text long e = rw (drop_more text 10 0 (omega (arith, long)), e) refl

pub short_no_mark : (text : List ℕ) → length text < 11 → None ≡ date_time_of text
unfolding date_time_of
short_no_mark text short = rw (drop_all 10 text (omega (arith, short))) refl
