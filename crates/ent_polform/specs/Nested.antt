-- How what lies in itself is read: `nested` counts as many levels as the JSON has, and how many are counted doesn't show.
use Rattle.std.specs.Prelude.{◌≡◌}
use Rattle.serde_json.specs.Data.{Data}
use Rattle.ent_polform.specs.Expressions.{expression_by, expression_of}
use Rattle.ent_polform.specs.Form.{child_by, child_of}

-- an expression is one level, whose arguments are expressions
abbrev pub ExpressionsAreNested : Type 0
ExpressionsAreNested = (d : Data) → expression_of d ≡ expression_by expression_of d

-- a child of a set is one level, whose children are children of sets
abbrev pub ChildrenAreNested : Type 0
ChildrenAreNested = (d : Data) → child_of d ≡ child_by child_of d
