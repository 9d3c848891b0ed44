-- The lexical form of a date, part by part.
use Rattle.std.proofs.Common.{◌≡◌, ◌≤◌, ◌<◌, [], ◌∷◌, ℕ, suc, List, Bool, true, false, Option, Some, None, ap, sym, refl, arith, length, get_or, take, drop, ◌∙◌}
use Rattle.std.proofs.lemmas.Bool.{true≢false}
use Rattle.std.proofs.lemmas.List.{length-take}
use Rattle.std.specs.Char.{is_ascii_digit}
use Rattle.std.specs.Prelude.{◌&&◌, ◌||◌, ◌==◌, bytes_eq, codes, if◌then◌else◌, option_and_then}
use Rattle.ent_values.specs.Calendar.{Day, day_of}
use Rattle.ent_values.specs.Reading.{count_of, date_of, has_form}

-- the zone behind the day
abbrev pub is_zone : List ℕ → Bool
is_zone text = bytes_eq text [] || bytes_eq text (codes "Z")

-- the day of three counts, if all three are there
abbrev pub counted : Option ℕ → Option ℕ → Option ℕ → Option Day
counted year month day = option_and_then (λ y. option_and_then (λ m. option_and_then (λ d. day_of y m d) day) month) year

-- the day, part by part
abbrev pub dated : List ℕ → Option Day
dated text =
    if (get_or text 4 0 == 45) && ((get_or text 7 0 == 45) && is_zone (drop 10 text))
    then counted (count_of (take 4 text)) (count_of (take 2 (drop 5 text))) (count_of (take 2 (drop 8 text))) else None

two : (a b r : Bool) → (a && (b && r)) ≡ ((a && (b && true)) && r)
two true true r = refl
two true false r = refl
two false b r = refl

four : (a b c d r : Bool) → (a && (b && (c && (d && r)))) ≡ ((a && (b && (c && (d && true)))) && r)
four true true c d r = two c d r
four true false c d r = refl
four false b c d r = refl

abbrev if_digits : Bool → ℕ → Option ℕ
if_digits b n = if b then Some n else None

parts : (y e m h d z : Bool) (year month day : ℕ) → (if (y && (e && (m && (h && d)))) && z then day_of year month day else None) ≡ (if e && (h && z) then counted (if_digits y year) (if_digits m month) (if_digits d day) else None)
parts false false m h d z year month day = refl
parts true false m h d z year month day = refl
parts false true m false d z year month day = refl
parts true true false false d z year month day = refl
parts true true true false d z year month day = refl
parts false true m true d false year month day = refl
parts true true false true d false year month day = refl
parts true true true true false false year month day = refl
parts true true true true true false year month day = refl
parts false true m true d true year month day = refl
parts true true false true d true year month day = refl
parts true true true true false true year month day = refl
parts true true true true true true year month day = refl

joined : (y1 y2 y3 y4 e m1 m2 h d z : Bool) (year month day : ℕ) → (if (y1 && (y2 && (y3 && (y4 && (e && (m1 && (m2 && (h && d)))))))) && z then day_of year month day else None) ≡ (if e && (h && z) then counted (if_digits (y1 && (y2 && (y3 && (y4 && true)))) year) (if_digits (m1 && (m2 && true)) month) (if_digits d day) else None)
joined y1 y2 y3 y4 e m1 m2 h d z year month day =
    ap (λ b. if b && z then day_of year month day else None)
    (four y1 y2 y3 y4 (e && (m1 && (m2 && (h && d)))) ∙ ap (λ r. (y1 && (y2 && (y3 && (y4 && true)))) && (e && r)) (two m1 m2 (h && d)))
    ∙ parts (y1 && (y2 && (y3 && (y4 && true)))) e (m1 && (m2 && true)) h d z year month day

pub date_law : (text : List ℕ) → 10 ≤ length text → date_of text ≡ dated text
unfolding date_of count_of
date_law [] long = absurd (omega (arith, long))
date_law (a ∷ []) long = absurd (omega (arith, long))
date_law (a ∷ b ∷ []) long = absurd (omega (arith, long))
date_law (a ∷ b ∷ c ∷ []) long = absurd (omega (arith, long))
date_law (a ∷ b ∷ c ∷ d ∷ []) long = absurd (omega (arith, long))
date_law (a ∷ b ∷ c ∷ d ∷ e ∷ []) long = absurd (omega (arith, long))
date_law (a ∷ b ∷ c ∷ d ∷ e ∷ f ∷ []) long = absurd (omega (arith, long))
date_law (a ∷ b ∷ c ∷ d ∷ e ∷ f ∷ g ∷ []) long = absurd (omega (arith, long))
date_law (a ∷ b ∷ c ∷ d ∷ e ∷ f ∷ g ∷ h ∷ []) long = absurd (omega (arith, long))
date_law (a ∷ b ∷ c ∷ d ∷ e ∷ f ∷ g ∷ h ∷ i ∷ []) long = absurd (omega (arith, long))
date_law (a ∷ b ∷ c ∷ d ∷ e ∷ f ∷ g ∷ h ∷ i ∷ j ∷ zone) long =
    joined (is_ascii_digit a) (is_ascii_digit b) (is_ascii_digit c) (is_ascii_digit d) (e == 45) (is_ascii_digit f) (is_ascii_digit g) (h == 45) (is_ascii_digit i && (is_ascii_digit j && true)) (is_zone zone) _ _ _

both : (a b : Bool) → (a && b) ≡ true → (a ≡ true) × (b ≡ true)
both true b e = (refl, e)
both false b e = absurd (true≢false (sym e))

-- a text that is like a form has its length
pub form_length : (form text : List ℕ) → has_form form text ≡ true → length form ≡ length text
form_length [] [] e = refl
form_length [] (byte ∷ text) e = absurd (true≢false (sym e))
form_length (place ∷ form) [] e = absurd (true≢false (sym e))
form_length (place ∷ form) (byte ∷ text) e =
    ap (λ n. suc n) (form_length form text (both _ _ e).1)

pub short_no_date : (text : List ℕ) → length text < 10 → None ≡ date_of text
unfolding date_of
short_no_date text short = go (has_form (codes "0000-00-00") (take 10 text)) refl
  where
    go : (b : Bool) → has_form (codes "0000-00-00") (take 10 text) ≡ b → None ≡ date_of text
    go false t = rw t refl
    go true t = absurd (omega (arith, short, form_length (codes "0000-00-00") (take 10 text) t, length-take 10 text))

-- the day of what the code reads part by part
pub counted_is : (text : List ℕ) (year month day : Option ℕ) → 10 ≤ length text → get_or text 4 0 ≡ 45 → get_or text 7 0 ≡ 45 → is_zone (drop 10 text) ≡ true → year ≡ count_of (take 4 text) → month ≡ count_of (take 2 (drop 5 text)) → day ≡ count_of (take 2 (drop 8 text)) → counted year month day ≡ date_of text
counted_is text year month day long first second zone y m d = rw (date_law text long, first, second, zone, y, m, d) refl

-- without a dash or the zone there is no date
pub no_date : (text : List ℕ) → 10 ≤ length text → ((get_or text 4 0 == 45) && ((get_or text 7 0 == 45) && is_zone (drop 10 text))) ≡ false → None ≡ date_of text
no_date text long e = rw (date_law text long, e) refl
