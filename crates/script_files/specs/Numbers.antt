-- What № stands for.
use Rattle.std.specs.Prelude.{ℕ, ◌+◌, ◌%◌, ◌&&◌, ◌==◌, nat_lt, List, [], ◌∷◌, ◌++◌, take, drop, decimal, Option, Some, None, option_map, if◌then◌else◌}
use Rattle.std.specs.Char.{is_ascii_digit}
use Rattle.std.specs.List.{flat_map, prefix_len}
use Rattle.ent_values.specs.Reading.{count_of}
use Rattle.script_files.specs.Cut.{cut}

-- №
abbrev pub number_mark : List ℕ
number_mark = 0xE2 ∷ 0x84 ∷ 0x96 ∷ []

-- how many digits a text begins with
abbrev pub digits_end : List ℕ → ℕ
digits_end text = prefix_len is_ascii_digit text

-- the number that the digits in front of a text write, if they are 1 to 9, and what stands behind them
abbrev pub leading_number : List ℕ → Option (ℕ × List ℕ)
leading_number text = option_map (λ n. (n, drop (digits_end text) text)) (count_of (take (digits_end text) text))

-- the number of a № at a time with this sign and this text behind it, which may begin with a number, and what is no part of it
abbrev pub signed : ℕ → ℕ → List ℕ → Option (ℕ × List ℕ) → ℕ × List ℕ
signed time sign text None = (time, sign ∷ text)
signed time sign text (Some found) =
    if sign == 43 then (time + found.0, found.1)
    else (if sign == 37 && nat_lt 0 found.0 then (time % found.0, found.1) else (time, sign ∷ text))

-- the number of a № at a time, which is that of the time, with K more where +K stands behind it, and what is left of it when it
-- is divided by K where %K does; and what of the text behind the № is no part of it
abbrev pub meant : ℕ → List ℕ → ℕ × List ℕ
meant time [] = (time, [])
meant time (sign ∷ text) = signed time sign text (leading_number text)

-- the number of a № with this text behind it, and the rest of the text
abbrev pub number_at : ℕ → List ℕ → List ℕ
number_at time behind = decimal (meant time behind).0 ++ (meant time behind).1

-- a text at a time, of which these are the parts between its №
abbrev pub numbered : ℕ → List (List ℕ) → List ℕ
numbered time [] = []
numbered time (first ∷ others) = first ++ flat_map (number_at time) others

-- a text at a time
abbrev pub at_time : ℕ → List ℕ → List ℕ
at_time time text = numbered time (cut number_mark text)
