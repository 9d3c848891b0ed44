-- How the keys of rows order, and those by which values are looked up, and that `==` decides whether two are the same.
use Rattle.std.specs.Prelude.{◌≡◌, ℕ, List, Bool, Option, Some, None}
use Rattle.std.specs.Bool.{Decides}
use Rattle.std.specs.Cmp.Lexicographic.{slice_cmp}
use Rattle.std.specs.Ordering.{nat_cmp, ordering_then}
use Rattle.std.specs.declared.cmp.Ordering.{Ordering}
use Rattle.std.specs.declared.cmp.Ordering.TheVariants.{Less, Equal, Greater}
use Rattle.ent_values.specs.Order.{type_cmp}
use Rattle.ent_finder.specs.Rows.{row_cmp}
use Rattle.ent_finder.specs.contracts.row.AttrKeyOrd.TheImpl as wanted_order
use Rattle.ent_finder.specs.contracts.row.AttrKeyPartialEq.TheImpl as wanted_keys
use Rattle.ent_finder.specs.contracts.row.RowKeyPartialEq.TheImpl as row_keys
use Rattle.ent_finder.specs.declared.row.AttrKey.{AttrKey}
use Rattle.ent_finder.specs.declared.row.RowKey.{RowKey}

-- ---- order

-- what `cmp` of two keys answers by which values are looked up
abbrev pub wanted_cmp : AttrKey → AttrKey → Ordering
wanted_cmp = (wanted_order.ghosts).cmp

-- texts by their bytes
abbrev pub text_order : List ℕ → List ℕ → Ordering
text_order = slice_cmp nat_cmp

-- no issuer comes first, then issuers by their bytes
abbrev pub issuer_order : Option (List ℕ) → Option (List ℕ) → Ordering
issuer_order None None = Equal
issuer_order None (Some b) = Less
issuer_order (Some a) None = Greater
issuer_order (Some a) (Some b) = text_order a b

-- how the fields of two keys stand to each other, as one: the first that differs decides
abbrev pub in_turn : (category entity attribute datatype issuer : Ordering) → Ordering
in_turn category entity attribute datatype issuer = ordering_then category (ordering_then entity (ordering_then attribute (ordering_then datatype issuer)))

-- keys of rows order by category, entity, attribute, type and issuer
abbrev pub row_order : RowKey → RowKey → Ordering
row_order a b =
    in_turn (text_order a.category b.category) (text_order a.entity b.entity) (text_order a.attribute b.attribute) (type_cmp a.datatype b.datatype) (issuer_order a.issuer b.issuer)

-- so do keys by which values are looked up
abbrev pub wanted_key_order : AttrKey → AttrKey → Ordering
wanted_key_order a b =
    in_turn (text_order a.category b.category) (text_order a.entity b.entity) (text_order a.attribute b.attribute) (type_cmp a.datatype b.datatype) (issuer_order a.issuer b.issuer)

-- `cmp` of two keys of rows answers by this order
abbrev pub RowKeysOrderByField : Type 0
RowKeysOrderByField = (a b : RowKey) → row_cmp a b ≡ row_order a b

-- `cmp` of two keys by which values are looked up answers by theirs
abbrev pub AttrKeysOrderByField : Type 0
AttrKeysOrderByField = (a b : AttrKey) → wanted_cmp a b ≡ wanted_key_order a b

-- ---- equality

-- what `==` of two keys of rows answers
abbrev pub same_row_key : RowKey → RowKey → Bool
same_row_key = (row_keys.ghosts).eq

-- what `==` of two keys answers by which values are looked up
abbrev pub same_attr_key : AttrKey → AttrKey → Bool
same_attr_key = (wanted_keys.ghosts).eq

-- it answers whether they are equal
abbrev pub SameRowKeysAreEqual : Type 0
SameRowKeysAreEqual = (a b : RowKey) → Decides (same_row_key a b) (a ≡ b)

-- that of two keys by which values are looked up does
abbrev pub SameAttrKeysAreEqual : Type 0
SameAttrKeysAreEqual = (a b : AttrKey) → Decides (same_attr_key a b) (a ≡ b)
