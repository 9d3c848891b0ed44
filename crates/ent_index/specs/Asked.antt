-- Which keys look at a row, and which at documents of a kind and an id.
use Rattle.std.specs.Prelude.{ℕ, List, Bool, false, ◌&&◌, bytes_eq}
use Rattle.ent_policy.specs.Same.{same_kind}
use Rattle.ent_policy.specs.declared.key.Kind.{Kind}
use Rattle.ent_finder.specs.Looking.{names_row}
use Rattle.ent_finder.specs.declared.row.RowKey.{RowKey}
use Rattle.ent_request.specs.declared.key.ReadKey.{ReadKey}
use Rattle.ent_request.specs.declared.key.ReadKey.TheVariants.{Attr, Ref}

-- a key of values that names the row: category, entity, attribute and type agree, and it has no issuer or the row's
abbrev pub asks_row : RowKey → ReadKey → Bool
asks_row row (Attr key) = names_row key row
asks_row row _ = false

-- a reference of that kind and id
abbrev pub asks_policy : Kind → List ℕ → ReadKey → Bool
asks_policy kind id (Ref reference) = same_kind kind reference.kind && bytes_eq id reference.id
asks_policy kind id _ = false
