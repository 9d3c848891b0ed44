-- The text of numbers, as versions are written.
use Rattle.std.specs.Prelude.{ℕ, List, decimal, map}
use Rattle.std.specs.List.{join_with_byte}

-- the text of numbers with a point between each two
abbrev pub dotted : List ℕ → List ℕ
dotted numbers = join_with_byte 46 (map decimal numbers)
