use Rattle.std.proofs.Common.{◌≡◌, ◌++◌, IsUtf8, chars, string_bytes}
use Rattle.std.specs.List.{flat_map}
use Rattle.std.specs.Str.Iter.{chars_rest}
use Rattle.script_junit.specs.Escaped.{escaped_char}
use Rattle.script_junit.proofs.escaping.escaped_text.Given as goal

-- the characters so far are written, and the others are left
abbrev pub invariant-loop-character : goal.invariant-loop-character
invariant-loop-character l = record {
  text : IsUtf8 (chars_rest l.character-iterator);
  left : string_bytes l.escaped ++ flat_map escaped_char (chars (chars_rest l.character-iterator)) ≡ flat_map escaped_char (chars l.text);
}
