-- The order of documents' names: their kinds and ids, without the versions. The order of rows by what a key names.
use Rattle.std.specs.Prelude.{ℕ, List, Option, Some, None}
use Rattle.std.specs.Cmp.Lexicographic.{slice_cmp}
use Rattle.std.specs.Option.{option_cmp}
use Rattle.std.specs.Ordering.{nat_cmp, ordering_then}
use Rattle.std.specs.declared.cmp.Ordering.{Ordering}
use Rattle.std.specs.declared.cmp.Ordering.TheVariants.{Equal}
use Rattle.ent_values.specs.Order.{type_cmp}
use Rattle.ent_policy.specs.contracts.key.KindOrd.TheImpl as kinds
use Rattle.ent_policy.specs.declared.key.DocKey.{DocKey}
use Rattle.ent_policy.specs.declared.key.Kind.{Kind}
use Rattle.ent_policy.specs.declared.key.Reference.{Reference}
use Rattle.ent_finder.specs.declared.row.AttrKey.{AttrKey}
use Rattle.ent_finder.specs.declared.row.RowKey.{RowKey}

abbrev pub Name : Type 0
Name = Kind × List ℕ

abbrev pub kind_cmp : Kind → Kind → Ordering
kind_cmp = (kinds.ghosts).cmp

abbrev pub name_cmp : Name → Name → Ordering
name_cmp a b = ordering_then (kind_cmp a.0 b.0) (slice_cmp nat_cmp a.1 b.1)

-- the name in a key
abbrev pub name_of : DocKey → Name
name_of key = (key.kind, key.id)

-- the name that a reference has
abbrev pub name_wanted : Reference → Name
name_wanted reference = (reference.kind, reference.id)

-- ---- rows

-- how the issuer of a row stands to the one that is wanted, if one is: none comes before every other
abbrev pub issuer_cmp : Option (List ℕ) → Option (List ℕ) → Ordering
issuer_cmp issuer None = Equal
issuer_cmp issuer (Some wanted) = option_cmp (slice_cmp nat_cmp) issuer (Some wanted)

-- how the key of a row stands to those that a key names: field by field, and by its issuer if the key has one
abbrev pub named_cmp : RowKey → AttrKey → Ordering
named_cmp row key =
    ordering_then (ordering_then (ordering_then (ordering_then (slice_cmp nat_cmp row.category key.category) (slice_cmp nat_cmp row.entity key.entity)) (slice_cmp nat_cmp row.attribute key.attribute)) (type_cmp row.datatype key.datatype)) (issuer_cmp row.issuer key.issuer)
