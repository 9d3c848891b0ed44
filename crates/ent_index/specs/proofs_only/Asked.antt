-- Keys in their order, as they are asked for.
use Rattle.std.specs.Prelude.{◌≡◌, ℕ, List, true, Option}
use Rattle.std.specs.Ordering.{is_le}
use Rattle.std.specs.declared.cmp.Ordering.{Ordering}
use Rattle.std.specs.declared.cmp.Ordering.TheVariants.{Greater, Less}
use Rattle.ent_policy.specs.declared.key.Kind.{Kind}
use Rattle.ent_finder.specs.declared.row.RowKey.{RowKey}
use Rattle.ent_request.specs.Noted.{read_cmp}
use Rattle.ent_request.specs.declared.key.ReadKey.{ReadKey}
use Rattle.ent_request.specs.declared.key.ReadKey.TheVariants.{Attr, Ref, Root}
use Rattle.ent_finder.specs.proofs_only.Order.{name_cmp}
use Rattle.ent_index.specs.Asked.{asks_policy}

-- the key of the values that the issuer gives of what a row is of, or without an issuer of those that anyone gives
abbrev pub key_of_row : RowKey → Option (List ℕ) → ReadKey
key_of_row row issuer = Attr (record { category = row.category; entity = row.entity; attribute = row.attribute; datatype = row.datatype; issuer = issuer })

-- no reference of that kind and id comes before the key
abbrev pub IsFirst : Kind → List ℕ → ReadKey → Type 0
IsFirst kind id first = (k : ReadKey) → asks_policy kind id k ≡ true → is_le (read_cmp first k) ≡ true

-- how a key stands to the references of a kind and an id
abbrev pub policy_order : Kind → List ℕ → ReadKey → Ordering
policy_order kind id Root = Less
policy_order kind id (Ref reference) = name_cmp (reference.kind, reference.id) (kind, id)
policy_order kind id _ = Greater
