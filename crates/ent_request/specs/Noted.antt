-- Keys of look-ups that are noted once.
use Rattle.std.specs.Prelude.{List, [], ◌∷◌, Bool}
use Rattle.std.specs.List.{list_any}
use Rattle.std.specs.Ordering.{is_eq}
use Rattle.std.specs.BTreeSet.{insert_key}
use Rattle.std.specs.declared.cmp.Ordering.{Ordering}
use Rattle.ent_request.specs.declared.key.ReadKey.{ReadKey}
use Rattle.ent_request.specs.contracts.key.ReadKeyOrd.TheImpl as order

-- the order of keys
abbrev pub read_cmp : ReadKey → ReadKey → Ordering
read_cmp = (order.ghosts).cmp

-- the set of keys, in their order, with one more
abbrev pub with_key : List ReadKey → ReadKey → List ReadKey
with_key keys key = insert_key read_cmp keys key

-- the set of keys, in their order, with several more
abbrev pub noted : List ReadKey → List ReadKey → List ReadKey
noted keys [] = keys
noted keys (more ∷ others) = noted (with_key keys more) others

-- whether a key is among these
abbrev pub has_key : List ReadKey → ReadKey → Bool
has_key keys key = list_any (λ k. is_eq (read_cmp key k)) keys
