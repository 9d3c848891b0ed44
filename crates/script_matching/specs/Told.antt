-- What is told of a place at which JSON isn't what is expected.
use Rattle.std.specs.Prelude.{ℕ, Bool, List, [], ◌∷◌, ◌++◌, codes, length, nat_le, take, if◌then◌else◌}
use Rattle.std.specs.Str.Lossy.{utf8_valid_len}
use Rattle.serde_json.specs.Data.{Data}
use Rattle.serde_json.specs.Written.{compact_text, has_float}

-- a text; of one of more than 200 bytes as many of these as end with a whole character, and two dots
abbrev pub cut : List ℕ → List ℕ
cut text = if nat_le (length text) 200 then text else take (utf8_valid_len (take 200 text)) (take 200 text) ++ codes ".."

-- data as JSON without spaces, cut where it is long; digits of a number with a fraction or an exponent aren't told
abbrev pub shown : Data → List ℕ
shown d = if has_float d then codes "a value with a fraction" else cut (compact_text d)

-- a line on a place: what is expected there, a word, and what stands there
abbrev pub told_of : List ℕ → List ℕ → List ℕ → List ℕ → List ℕ
told_of place expected word found = place ++ (codes ": expected " ++ (expected ++ (word ++ found)))

-- other data stands there than is expected
abbrev pub another : List ℕ → Data → Data → List ℕ
another place e d = told_of place (shown e) (codes ", replied ") (shown d)

-- nothing stands there
abbrev pub nothing : List ℕ → Data → List ℕ
nothing place e = told_of place (shown e) (codes ", nothing there") []

-- nothing is expected there
abbrev pub needless : List ℕ → Data → List ℕ
needless place d = told_of place (codes "nothing") (codes ", replied ") (shown d)

-- a member of a list is expected, of any number, of which none has this as a part
abbrev pub unlike : List ℕ → Data → List ℕ
unlike place e = told_of place (shown e) (codes ", no member has it") []
