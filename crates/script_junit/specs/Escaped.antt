-- Bytes as they stand in XML 1.0, in the text of an element or in the value of an attribute.
use Rattle.std.specs.Prelude.{ℕ, ◌&&◌, ◌==◌, Bool, not, nat_le, List, codes, encode_utf8, if◌then◌else◌}
use Rattle.std.specs.List.{flat_map}
use Rattle.std.specs.Str.{chars}
use Rattle.std.specs.Str.Lossy.{utf8_lossy}

-- a character of Unicode is one that XML has (XML 1.0, 2.2): no control character, and neither of the two that stand for none
abbrev pub is_written : ℕ → Bool
is_written c = nat_le 32 c && (not (c == 65534) && not (c == 65535))

-- a character as it stands there: by its name or number where it means something else or is easily lost, and U+FFFD for what XML hasn't
abbrev pub escaped_char : ℕ → List ℕ
escaped_char c =
    if c == 38 then codes "&amp;"
    else if c == 60 then codes "&lt;"
    else if c == 62 then codes "&gt;"
    else if c == 34 then codes "&quot;"
    else if c == 9 then codes "&#9;"
    else if c == 10 then codes "&#10;"
    else if c == 13 then codes "&#13;"
    else if is_written c then encode_utf8 c
    else encode_utf8 65533

-- bytes as they stand there: their characters, of which U+FFFD stands for each sequence that isn't UTF-8
unfoldable pub escaped : List ℕ → List ℕ
escaped text = flat_map escaped_char (chars (utf8_lossy text))
